-- The checker's comparison is that of 01: its sum is the book's earnings, and the ceiling of the list of numbers is that of the price bytes.
-- Assumes nothing.
use Rattle.std.specs.Prelude.{◌≡◌, List, ℕ, eqb}
use Rattle.std.proofs.Math.Path.{ap}
use Rattle.std.proofs.Common.{ap₂, ◌∙◌, arith}
use Rattle.base_sums.specs.Sums.{Σ, when, Σ-ext}
use Rattle.base_sums.specs.Filled.{Filled}
use Rattle.paper_book.specs.Bytes.{price_in, entry_in}
use Rattle.paper_book.specs.Columns.{at}
use Rattle.paper_rules.specs.Plans.{kept, earnings}
use Rattle.paper_rules.specs.Prices.{ceiling}
use Rattle.law_line.specs.HeldLine.{profits_in}
use Rattle.work_ceiling.specs.PricedLine.{PricedLine}
use Rattle.work_ceiling.specs.Same.{ceiling_same}
use Rattle.check_plan.specs.Totals.{CanEarn, earning}
use Rattle.check_plan.specs.CanCheck.{CanCheck}

module _ {spans count : ℕ} {limits a b profits entries prices : List ℕ} (w : CanCheck spans limits count a b profits entries prices) where
  pub can_earn : CanEarn count profits entries
  can_earn = record { profits_in = profits_in w.held; enough = w.entries_enough }

  module _ {list : List ℕ} (listed : Filled (price_in prices) spans list) where
    unfoldable pub priced_line : PricedLine spans count limits a b profits list
    priced_line = record { book = w.book; held = w.held; price_upto = λ s l. omega (arith, listed.is s l, w.price_upto s l) }

    module _ {earned top : ℕ} (earned_is : earned ≡ Σ count (earning profits (entry_in entries))) (top-is : top ≡ ceiling w.book (at list)) where
      earnings_are : earned ≡ earnings w.book (entry_in entries)
      unfolding earnings
      earnings_are =
          rw (← w.held.holds.counted)
          (earned_is ∙ Σ-ext count _ _ (λ i l. ap (when (kept (entry_in entries) i)) (w.held.holds.profit_is i l)))

      ceiling_is : top ≡ ceiling w.book (price_in prices)
      ceiling_is = top-is ∙ ceiling_same w.book (λ s l. listed.is s (omega (arith, w.held.spans_is)))

      pub same_balance : eqb earned top ≡ eqb (earnings w.book (entry_in entries)) (ceiling w.book (price_in prices))
      same_balance = ap₂ eqb earnings_are ceiling_is
