-- The two passes make the ceiling of 01: the prices along a request are the toll at its end less the toll at its start. An accepted line keeps every
-- column within its bounds, so both can be made. Assumes nothing.
use Rattle.std.specs.Prelude.{◌≡◌, List}
use Rattle.std.proofs.Math.Path.{sym, ap₂}
use Rattle.std.proofs.Common.{ap, ◌∙◌, arith}
use Prim.Native.Nat.{ℕ, ◌+◌, ◌*◌, ◌-◌, ◌≤◌, ◌<◌, min, max}
use Rattle.base_sums.specs.Sums.{Σ, Σ-ext, Σ-most}
use Rattle.paper_book.specs.Book as Books
use Rattle.paper_book.specs.Book.{limit, profit}
use Rattle.paper_book.specs.Columns.{at, a_below, b_below}
use Rattle.paper_rules.specs.Prices.{ceiling}
use Rattle.law_row.specs.Row as Row
use Rattle.law_row.specs.Row.{fare}
use Rattle.law_row.specs.Along.{fare_along}
use Rattle.law_line.specs.RowOf.{row_of}
use Rattle.law_line.specs.Ceiling.{ceiling_row}
use Rattle.law_line.specs.HeldLine.{few_spans, few, a_in, b_in, profits_in, limit_in}
use Rattle.work_ceiling.specs.PricedLine.{PricedLine}
use Rattle.work_ceiling.specs.Tolls.{Payable, Tolled, rent_upto}
use Rattle.work_ceiling.specs.Surplus.{gain_at, CanSum}

module _ {spans count : ℕ} {limits a b profits prices : List ℕ} (w : PricedLine spans count limits a b profits prices) where
  pub payable : Payable spans limits prices
  payable = record { spans_upto = few_spans w.held; limit_upto = limit_in w.held; price_upto = w.price_upto }

  module _ {toll : List ℕ} {rented : ℕ} (tolled : Tolled spans limits (at prices) toll rented) where
    -- the prices on the spans that request i crosses are the tolls between its ends
    fare_tolls : (i : ℕ) → i < count → fare (row_of w.book) (at prices) i + at toll (min (at a i) (at b i)) ≡ at toll (max (at a i) (at b i))
    unfolding row_of
    fare_tolls i l =
        rw (tolled.tolls.is (min (at a i) (at b i)) (omega (arith, a_in w.held i l, b_in w.held i l)), tolled.tolls.is (max (at a i) (at b i)) (omega (arith, a_in w.held i l, b_in w.held i l)))
        (rw (w.held.holds.a_is i l, w.held.holds.b_is i l)
        (fare_along (row_of w.book) (at prices) i (omega arith) (omega (arith, a_in w.held i l, b_in w.held i l, w.held.holds.a_is i l, w.held.holds.b_is i l, w.held.spans_is))))

    pub can_sum : CanSum count a b profits toll
    can_sum = record {
      a_in = a_below w.held.line.sound w.held.holds;
      b_in = b_below w.held.line.sound w.held.holds;
      profits_in = profits_in w.held;
      rising = λ i l. omega (arith, fare_tolls i l);
    }

    module _ {surplus : ℕ} (summed : surplus ≡ Σ count (gain_at a b profits toll)) where
      surplus_are : Σ (Books.count w.book) (λ i. profit w.book i - fare (row_of w.book) (at prices) i) ≡ surplus
      surplus_are =
          rw (← w.held.holds.counted)
          (Σ-ext count _ _ (λ i l. omega (arith, w.held.holds.profit_is i l, fare_tolls i l)) ∙ sym summed)

      rents : Σ (Books.spans w.book) (λ s. limit w.book s * at prices s) ≡ rented
      rents =
          rw (← w.held.spans_is)
          (Σ-ext spans _ _ (λ s l. ap (λ (n : ℕ). n * at prices s) (sym (w.held.holds.limit_is s (omega (arith, w.held.spans_is))))) ∙ sym tolled.rent_is)

      pub ceiling_is : rented + surplus ≡ ceiling w.book (at prices)
      unfolding Row.ceiling row_of
      ceiling_is = sym (ceiling_row w.held.line (at prices) ∙ ap₂ ◌+◌ rents surplus_are)

      -- the two sums together stay far below 2^64
      pub sum_fits : rented + surplus ≤ 6304000000
      sum_fits =
          omega (
            arith,
            few w.held,
            few_spans w.held,
            summed,
            tolled.rent_is,
            Σ-most count (gain_at a b profits toll) 1000000 (λ i l. omega (arith, (profits_in w.held).upto i l)),
            Σ-most spans (λ s. at limits s * at prices s) 96000000 (λ s l. rent_upto _ _ (limit_in w.held s l) (w.price_upto s l)),
          )
