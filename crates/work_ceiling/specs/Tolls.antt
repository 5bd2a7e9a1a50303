-- The pass over the spans: the sum of limit × price, and what the spans below each node cost together. Each turn adds one term and fills one place,
-- and no sum grows past what a number holds. Assumes nothing.
use Rattle.std.specs.Prelude.{◌≡◌, refl, List, ℕ, ◌+◌, ◌*◌, ◌≤◌, ◌<◌, length, set}
use Rattle.std.proofs.Common.{mul-le-mul_left, mul-le-mul_right, arith}
use Rattle.std.proofs.Math.ListN.{length-set}
use Rattle.base_sums.specs.Sums.{Σ}
use Rattle.base_sums.specs.Turns.{Running, running_none, running_more}
use Rattle.base_sums.specs.Filled.{Filled, filled_none, filled_more}
use Rattle.paper_book.specs.Columns.{at}
use Rattle.paper_rules.specs.Prices.{Prices}

-- at most 63 spans, no limit above 96 and no price above 1,000,000
pub record Payable (spans : ℕ) (limits prices : List ℕ) : Type 0 where
  pub spans_upto : spans ≤ 63
  pub limit_upto : (s : ℕ) → s < spans → at limits s ≤ 96
  pub price_upto : (s : ℕ) → s < spans → at prices s ≤ 1000000

-- at node v the sum of the prices of the spans below it; the sum of limit × price
pub record Tolled (spans : ℕ) (limits : List ℕ) (prices : Prices) (toll : List ℕ) (rented : ℕ) : Type 0 where
  pub tolls : Filled (λ v. Σ v prices) (spans + 1) toll
  pub rent_is : rented ≡ Σ spans (λ s. at limits s * prices s)

-- after s spans
pub record Tolling (s : ℕ) (limits : List ℕ) (prices : Prices) (toll : List ℕ) (sum rented : ℕ) : Type 0 where
  pub tolls : Filled (λ v. Σ v prices) (s + 1) toll
  pub long : length toll ≡ 64
  pub summed : Running 1000000 prices s sum
  pub rents : Running 96000000 (λ t. at limits t * prices t) s rented

-- what one span adds at most
pub rent_upto : (l p : ℕ) → l ≤ 96 → p ≤ 1000000 → l * p ≤ 96000000
rent_upto l p hl hp = omega (arith, mul-le-mul_right p hl, mul-le-mul_left 96 hp)

module _ {limits : List ℕ} {prices : Prices} where
  pub tolling_none : (toll : List ℕ) → length toll ≡ 64 → Tolling 0 limits prices (set toll 0 0) 0 0
  unfolding Σ
  tolling_none toll long = record {
    tolls = filled_more 0 (filled_none _ toll) (omega (arith, long)) refl;
    long = simp length-set long;
    summed = running_none;
    rents = running_none;
  }

  pub tolling_more :
      {s sum rented : ℕ} {toll : List ℕ} → Tolling s limits prices toll sum rented → s < 63 → at limits s ≤ 96 → prices s ≤ 1000000
      → Tolling (s + 1) limits prices (set toll (s + 1) (sum + prices s)) (sum + prices s) (rented + at limits s * prices s)
  tolling_more {s} {sum} was l hl hp =
      let next : Running 1000000 prices (s + 1) (sum + prices s) = running_more (prices s) was.summed refl hp in
      record {
        tolls = filled_more (sum + prices s) was.tolls (omega (arith, was.long)) next.sum_is;
        long = simp length-set was.long;
        summed = next;
        rents = running_more (at limits s * prices s) was.rents refl (rent_upto (at limits s) (prices s) hl hp);
      }

  -- past the last span
  pub tolling_all : {s sum rented : ℕ} {toll : List ℕ} → Tolling s limits prices toll sum rented → Tolled s limits prices toll rented
  tolling_all done = record { tolls = done.tolls; rent_is = done.rents.sum_is }
