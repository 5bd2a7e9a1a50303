-- The columns of a ring, turned so that they are counted from the node after the cut, hold the line which the cut leaves. Assumes nothing.
use Rattle.std.specs.Prelude.{◌≡◌, List, ℕ, ◌+◌, ◌<◌}
use Rattle.std.proofs.Common.{sym, ap, ◌∙◌, arith}
use Rattle.paper_book.specs.Book.{Book}
use Rattle.paper_book.specs.Columns.{at, Holds}
use Rattle.paper_rules.specs.Cuts.{steps, span_at, cut_line}
use Rattle.law_ring.specs.Ring.{Ring}
use Rattle.law_ring.specs.Turn.{span_below}
use Rattle.law_ring.specs.CutLine.{ring_spans, cut_spans, cut_count, cut_limit, cut_a, cut_b, cut_profit}

pub turned_holds : {book : Book} → Ring book → (j : ℕ) → j < book.nodes → {count : ℕ} {limits a b profits limits' a' b' : List ℕ} → Holds book count limits a b profits →
    ((t : ℕ) → t + 1 < book.nodes → at limits' t ≡ at limits (span_at book.nodes j t)) →
    ((i : ℕ) → i < count → at a' i ≡ steps book.nodes (j + 1) (at a i)) →
    ((i : ℕ) → i < count → at b' i ≡ steps book.nodes (j + 1) (at b i)) →
    Holds (cut_line book j) count limits' a' b' profits
turned_holds {book} on j cut {count} h turned from to =
    record {
      counted = h.counted ∙ sym (cut_count on j);
      limit_is = λ t l. let k : t + 1 < book.nodes = omega (arith, cut_spans on j) in turned t k ∙ h.limit_is (span_at book.nodes j t) (omega (arith, span_below book.nodes j cut t k, ring_spans on)) ∙ sym (cut_limit on j t k);
      a_is = λ i l. from i l ∙ ap (steps book.nodes (j + 1)) (h.a_is i l) ∙ sym (cut_a on j i (known i l));
      b_is = λ i l. to i l ∙ ap (steps book.nodes (j + 1)) (h.b_is i l) ∙ sym (cut_b on j i (known i l));
      profit_is = λ i l. h.profit_is i l ∙ sym (cut_profit on j i (known i l));
    }
  where
    known : (i : ℕ) → i < count → i < Rattle.paper_book.specs.Book.count book
    known i l = omega (arith, h.counted)
