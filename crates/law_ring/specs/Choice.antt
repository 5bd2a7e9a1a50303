-- The cut reported is the lowest-numbered span whose line has the greatest best earnings, and there is just one such span. Assumes nothing.
use Rattle.std.specs.Prelude.{◌≡◌, Bool, true, ℕ, ◌≤◌, ◌<◌, leb}
use Rattle.std.proofs.Common.{sym, ◌∙◌, arith, leb-true, leb-false, le-leb}
use Rattle.std.proofs.Math.Bool.{false}
use Rattle.base_sums.specs.Each.{each, each_at, each_of, each_breaks, before_first, first_passes, first_here, not_above, of_yes, fails}
use Rattle.base_sums.specs.Greatest.{greatest}
use Rattle.paper_book.specs.Book.{Book, spans}
use Rattle.paper_rules.specs.Cuts.{cut_best, cut}
use Rattle.law_ring.specs.Ring.{Ring}
use Rattle.law_ring.specs.CutLine.{ring_spans}

-- no line earns more than that of cut j, and those of lower cuts earn less
pub record LowestBestCut (book : Book) (j : ℕ) : Type 0 where
  pub in_ring : j < spans book
  pub greatest_there : (i : ℕ) → i < spans book → cut_best book i ≤ cut_best book j
  pub lowest : (i : ℕ) → i < j → cut_best book i < cut_best book j

-- the test that `cut` looks for
abbrev tops : Book → ℕ → Bool
tops book j = each (spans book) (λ i. leb (cut_best book i) (cut_best book j))

tops_of : (book : Book) (j : ℕ) → ((i : ℕ) → i < spans book → cut_best book i ≤ cut_best book j) → tops book j ≡ true
tops_of book j h = each_of (spans book) _ (λ i l. le-leb _ _ (h i l))

tops_at : (book : Book) (j : ℕ) → tops book j ≡ true → (i : ℕ) → i < spans book → cut_best book i ≤ cut_best book j
tops_at book j e i l = leb-true _ _ (each_at (spans book) _ e i l)

-- what does not top is beaten by something, and so by whatever tops
beaten : (book : Book) (i j : ℕ) → tops book i ≡ false → ((k : ℕ) → k < spans book → cut_best book k ≤ cut_best book j) → cut_best book i < cut_best book j
beaten book i j e most = let w = each_breaks (spans book) _ e in omega (arith, leb-false (cut_best book w.0) (cut_best book i) w.2, most w.0 w.1)

module _ {book : Book} (on : Ring book) where
  pub cut_in : cut book < spans book
  unfolding cut
  cut_in =
      let w = greatest (spans book) (cut_best book) (omega (arith, ring_spans on, on.sound.nodes_from)) in
      not_above (λ l. of_yes (sym (before_first (spans book) (tops book) w.0 (omega (arith, w.1.below))) ∙ tops_of book w.0 w.1.most))

  pub cut_chosen : LowestBestCut book (cut book)
  unfolding cut
  cut_chosen =
      let most = tops_at book (cut book) (first_passes (spans book) (tops book) cut_in) in
      record { in_ring = cut_in; greatest_there = most; lowest = λ i l. beaten book i (cut book) (before_first (spans book) (tops book) i l) most }

  -- the words leave one cut
  pub cut_once : (j : ℕ) → LowestBestCut book j → cut book ≡ j
  unfolding cut
  cut_once j c = first_here (spans book) (tops book) j (omega (arith, c.in_ring)) lower (λ h. tops_of book j c.greatest_there)
    where
      lower : (i : ℕ) → i < j → tops book i ≡ false
      lower i h = fails (λ e. omega (arith, tops_at book i e j c.in_ring, c.lowest i h))
