-- Requests laid on the row one after another: one turn more gives the next candidate its lower end, its upper end and its cost. Assumes nothing.
use Rattle.std.specs.Prelude.{◌≡◌, List, ℕ, ◌+◌, ◌<◌, min, max, length, set, ℤ, pos}
use Rattle.std.proofs.Common.{◌∙◌, arith, length-set}
use Rattle.base_sums.specs.At.{at}
use Rattle.base_sums.specs.Filled.{stored, filled_none, filled_more}
use Rattle.base_signed.specs.Parts.{up, dn}
use Rattle.plan_row.specs.Steps.{Candidates}

-- n requests are laid, in arrays of 256 places
pub record Laying (n : ℕ) (a b profits lo hi : List ℕ) (cost : List ℤ) : Type 0 where
  pub so_far : Candidates n a b profits lo hi cost
  pub lo_places : length lo ≡ 256
  pub hi_places : length hi ≡ 256
  pub cost_places : length cost ≡ 256

pub laying_none : (a b profits lo hi : List ℕ) (cost : List ℤ) → length lo ≡ 256 → length hi ≡ 256 → length cost ≡ 256 → Laying 0 a b profits lo hi cost
laying_none a b profits lo hi cost los his costs = record {
  so_far = record { lower = filled_none _ lo; upper = filled_none _ hi; not_above = λ i l. absurd (omega arith); profit = λ i l. absurd (omega arith) };
  lo_places = los;
  hi_places = his;
  cost_places = costs;
}

pub laying_more :
    {n : ℕ} {a b profits lo hi : List ℕ} {cost : List ℤ} {v w : ℕ} (z : ℤ)
    → Laying n a b profits lo hi cost → n < 256
    → v ≡ min (at a n) (at b n) → w ≡ max (at a n) (at b n) → up z ≡ 0 → dn z ≡ at profits n
    → Laying (n + 1) a b profits (set lo n v) (set hi n w) (set cost n z)
laying_more {n} {a} {b} {profits} {lo} {hi} {cost} {v} {w} z was l low high not_above paid = record {
  so_far = record {
    lower = filled_more v was.so_far.lower (omega arith) low;
    upper = filled_more w was.so_far.upper (omega arith) high;
    not_above = stored up (λ i. 0) cost (pos 0) was.so_far.not_above (omega arith) z not_above;
    profit = stored dn (at profits) cost (pos 0) was.so_far.profit (omega arith) z paid;
  };
  lo_places = length-set lo n v ∙ was.lo_places;
  hi_places = length-set hi n w ∙ was.hi_places;
  cost_places = length-set cost n z ∙ was.cost_places;
}
