-- Candidates set in an order one after another, and what is kept put back by number: one turn more copies one. Assumes nothing.
use Rattle.std.specs.Prelude.{◌≡◌, refl, Bool, List, ℕ, ◌+◌, ◌<◌, length, get_or, set, ℤ, pos}
use Rattle.std.proofs.Common.{◌∙◌, arith, length-set}
use Rattle.base_sums.specs.At.{at, flag}
use Rattle.base_sums.specs.Filled.{filled_none, filled_more}
use Rattle.plan_row.specs.Reordered.{Arranged, PutBack}

-- n candidates are set, in arrays of 256 places
pub record Arranging (n : ℕ) (order lo hi : List ℕ) (cost : List ℤ) (los his : List ℕ) (costs : List ℤ) : Type 0 where
  pub so_far : Arranged n order lo hi cost los his costs
  pub lo_places : length los ≡ 256
  pub hi_places : length his ≡ 256
  pub cost_places : length costs ≡ 256

pub arranging_none :
    (order lo hi : List ℕ) (cost : List ℤ) (los his : List ℕ) (costs : List ℤ)
    → length los ≡ 256 → length his ≡ 256 → length costs ≡ 256 → Arranging 0 order lo hi cost los his costs
arranging_none order lo hi cost los his costs l h c = record {
  so_far = record { lower = filled_none _ los; upper = filled_none _ his; paid = filled_none _ costs };
  lo_places = l;
  hi_places = h;
  cost_places = c;
}

pub arranging_more :
    {n : ℕ} {order lo hi : List ℕ} {cost : List ℤ} {los his : List ℕ} {costs : List ℤ}
    → Arranging n order lo hi cost los his costs → n < 256
    → Arranging (n + 1) order lo hi cost (set los n (at lo (at order n))) (set his n (at hi (at order n))) (set costs n (get_or cost (at order n) (pos 0)))
arranging_more {n} {order} {lo} {hi} {cost} {los} {his} {costs} was l = record {
  so_far = record {
    lower = filled_more _ was.so_far.lower (omega arith) refl;
    upper = filled_more _ was.so_far.upper (omega arith) refl;
    paid = filled_more _ was.so_far.paid (omega arith) refl;
  };
  lo_places = length-set los n _ ∙ was.lo_places;
  hi_places = length-set his n _ ∙ was.hi_places;
  cost_places = length-set costs n _ ∙ was.cost_places;
}

-- n are put back, in an array of 256 places
pub record PuttingBack (n : ℕ) (place : List ℕ) (keeps kept : List Bool) : Type 0 where
  pub so_far : PutBack n place keeps kept
  pub places : length kept ≡ 256

pub putting_none : (place : List ℕ) (keeps kept : List Bool) → length kept ≡ 256 → PuttingBack 0 place keeps kept
putting_none place keeps kept all = record { so_far = filled_none _ kept; places = all }

pub putting_more : {n : ℕ} {place : List ℕ} {keeps kept : List Bool} → PuttingBack n place keeps kept → n < 256 → PuttingBack (n + 1) place keeps (set kept n (flag keeps (at place n)))
putting_more {n} {place} {keeps} {kept} was l = record {
  so_far = filled_more _ was.so_far (omega arith) refl;
  places = length-set kept n _ ∙ was.places;
}
