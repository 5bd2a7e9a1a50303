-- The loop over the cuts: the best so far is the lowest-numbered one with the greatest earnings among the cuts that were tried. Assumes nothing.
use Rattle.std.specs.Prelude.{◌≡◌, ℕ, ◌+◌, ◌≤◌, ◌<◌, max}
use Rattle.std.proofs.Common.{sym, ap, ⊎_elim, eq-or-lt_of_le, arith}
use Rattle.paper_book.specs.Book.{Book}
use Rattle.paper_rules.specs.Cuts.{cut_best, cut}
use Rattle.law_ring.specs.Ring.{Ring}
use Rattle.law_ring.specs.CutLine.{ring_spans}
use Rattle.law_ring.specs.Choice.{cut_once}

-- of the cuts below j
pub record BestBelow (book : Book) (j best top : ℕ) : Type 0 where
  pub tried : best < j
  pub earns : top ≡ cut_best book best
  pub most : (i : ℕ) → i < j → cut_best book i ≤ top
  pub lowest : (i : ℕ) → i < best → cut_best book i < top

pub best_first : {book : Book} {top : ℕ} → top ≡ cut_best book 0 → BestBelow book 1 0 top
best_first {book} e = record { tried = omega arith; earns = e; most = λ i l. let q : i ≡ 0 = omega arith in omega (arith, ap (cut_best book) q); lowest = λ i l. absurd (omega arith) }

module _ {book : Book} {j best top earned : ℕ} (b : BestBelow book j best top) (e : earned ≡ max top (cut_best book j)) where
  each_tried : (t : ℕ) → top ≤ t → earned ≤ t → (i : ℕ) → i < j + 1 → cut_best book i ≤ t
  each_tried t h k i l = ⊎_elim (λ (q : i ≡ j). omega (arith, ap (cut_best book) q)) (λ (m : i < j). omega (arith, b.most i m)) (eq-or-lt_of_le (below l))
    where
      below : i < j + 1 → i ≤ j
      below m = omega arith

  pub best_better : top < earned → BestBelow book (j + 1) j earned
  best_better h = record { tried = omega arith; earns = omega (arith, e); most = each_tried earned (omega arith) (omega arith); lowest = λ i l. omega (arith, b.most i l) }

  pub best_stays : earned ≤ top → BestBelow book (j + 1) best top
  best_stays h = record { tried = omega (arith, b.tried); earns = b.earns; most = each_tried top (omega arith) h; lowest = b.lowest }

pub best_chosen : {book : Book} {j best top : ℕ} → Ring book → j ≡ book.nodes → BestBelow book j best top → best ≡ cut book
best_chosen {book} {best} on e b =
    sym
    (cut_once on best
    (record {
      in_ring = omega (arith, ring_spans on, b.tried);
      greatest_there = λ i l. omega (arith, b.most i (omega (arith, ring_spans on)), b.earns);
      lowest = λ i l. omega (arith, b.lowest i l, b.earns);
    }))
