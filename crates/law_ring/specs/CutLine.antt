-- The line which cut j leaves of a ring is a line like any accepted one: what its fields are, and that they keep the ranges of 01. Assumes nothing.
use Rattle.std.specs.Prelude.{◌≡◌, List, [], ◌∷◌, map, ℕ, zero, suc, ◌+◌, ◌-◌, ◌<◌, length, get_or, eqb}
use Rattle.std.proofs.Math.Path.{refl, sym, ap}
use Rattle.std.proofs.Common.{◌∙◌, arith}
use Rattle.std.proofs.Math.Logic.{inl}
use Rattle.std.proofs.Math.Bool.{cond}
use Rattle.std.proofs.Math.ListN.{length-map}
use Rattle.base_sums.specs.Table.{length_table, table_at}
use Rattle.paper_book.specs.Book.{Book, spans_of, spans, limit, count, request, end_a, end_b, profit}
use Rattle.paper_book.specs.Sound.{Sound}
use Rattle.paper_rules.specs.Cuts.{steps, span_at, moved, cut_line}
use Rattle.law_line.specs.Line.{Line}
use Rattle.law_ring.specs.Ring.{Ring}
use Rattle.law_ring.specs.Turn.{place_below, places_differ, span_below}

-- an element of a mapped list, whatever stands past its end
map_at {ℓ κ} : {A : Type ℓ} {B : Type κ} (f : A → B) (l : List A) (i : ℕ) (d : A) (e : B) → i < length l → get_or (map f l) i e ≡ f (get_or l i d)
map_at f [] i d e h = absurd (omega arith)
map_at f (x ∷ l) zero d e h = refl
map_at f (x ∷ l) (suc i) d e h = map_at f l i d e (omega arith)

module _ {book : Book} (on : Ring book) where
  pub ring_spans : spans book ≡ book.nodes
  unfolding spans spans_of
  ring_spans = ap (λ (s : ℕ). cond (eqb s 2) book.nodes (book.nodes - 1)) on.ring

  module _ (j : ℕ) where
    pub inside : j < spans book → j < book.nodes
    inside cut = omega (arith, ring_spans)

    pub cut_spans : spans (cut_line book j) ≡ book.nodes - 1
    unfolding spans spans_of cut_line
    cut_spans = refl

    pub cut_count : count (cut_line book j) ≡ count book
    unfolding count cut_line
    cut_count = length-map book.requests (moved book.nodes j)

    pub cut_limit : (t : ℕ) → t + 1 < book.nodes → limit (cut_line book j) t ≡ limit book (span_at book.nodes j t)
    unfolding limit cut_line
    cut_limit t h = table_at (book.nodes - 1) _ t 0 (omega arith)

    moved_at : (i : ℕ) → i < count book → request (cut_line book j) i ≡ moved book.nodes j (request book i)
    unfolding count cut_line
    moved_at i h = map_at (moved book.nodes j) book.requests i _ _ h

    pub cut_a : (i : ℕ) → i < count book → end_a (cut_line book j) i ≡ steps book.nodes (j + 1) (end_a book i)
    unfolding end_a moved
    cut_a i h = ap (λ q. q.a) (moved_at i h)

    pub cut_b : (i : ℕ) → i < count book → end_b (cut_line book j) i ≡ steps book.nodes (j + 1) (end_b book i)
    unfolding end_b moved
    cut_b i h = ap (λ q. q.b) (moved_at i h)

    pub cut_profit : (i : ℕ) → i < count book → profit (cut_line book j) i ≡ profit book i
    unfolding profit moved
    cut_profit i h = ap (λ q. q.profit) (moved_at i h)

    pub cut_line_lem : j < spans book → Line (cut_line book j)
    unfolding cut_line
    cut_line_lem cut =
        record {
          line = refl;
          sound =
              record {
                shaped = inl refl;
                nodes_from = s.nodes_from;
                ring_from = λ e. absurd (omega arith);
                nodes_upto = s.nodes_upto;
                channels_from = s.channels_from;
                channels_upto = s.channels_upto;
                limits_count = length_table (book.nodes - 1) _ ∙ sym cut_spans;
                limit_upto = λ t h. let l : t + 1 < book.nodes = omega (arith, cut_spans) in omega (arith, cut_limit t l, s.limit_upto (span_at book.nodes j t) (omega (arith, span_below book.nodes j (inside cut) t l, ring_spans)));
                count_upto = omega (arith, cut_count, s.count_upto);
                a_node = λ i h. let l = known i h in omega (arith, cut_a i l, place_below book.nodes j (inside cut) (end_a book i) (s.a_node i l));
                b_node = λ i h. let l = known i h in omega (arith, cut_b i l, place_below book.nodes j (inside cut) (end_b book i) (s.b_node i l));
                ends_differ = λ i h e. let l = known i h in s.ends_differ i l (places_differ book.nodes j (inside cut) (end_a book i) (end_b book i) (s.a_node i l) (s.b_node i l) (sym (cut_a i l) ∙ e ∙ cut_b i l));
                profit_from = λ i h. let l = known i h in omega (arith, cut_profit i l, s.profit_from i l);
                profit_upto = λ i h. let l = known i h in omega (arith, cut_profit i l, s.profit_upto i l);
              };
        }
      where
        s : Sound book
        s = on.sound

        known : (i : ℕ) → i < count (cut_line book j) → i < count book
        known i h = omega (arith, cut_count)
