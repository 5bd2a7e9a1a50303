-- The distances before any candidate, as far as node j: the loop that lays them goes cell by cell. Assumes nothing.
use Rattle.std.specs.Prelude.{List, ◌≡◌, refl, ℕ, suc, ◌≤◌, ◌<◌, ℤ, pos, get_or, length, set}
use Rattle.std.proofs.Common.{⊎_elim, ap, ◌∙◌, arith, length-set}
use Rattle.base_sums.specs.At.{Stored, store}
use Rattle.base_signed.specs.Parts.{up, dn}
use Rattle.base_sums.specs.Each.{same_or_not}
use Rattle.plan_insert.specs.State.{at, PastCell, Stepped}

-- as far as node j, in an array of 128
pub record SteppedTo (j : ℕ) (room : List ℕ) (dist : List ℤ) : Type 0 where
  pub long : length dist ≡ 128
  pub stepped : Stepped j room dist

-- node 0 is at distance 0
pub stepped_none : (room : List ℕ) (dist : List ℤ) → length dist ≡ 128 → SteppedTo 0 room (set dist 0 (pos 0))
stepped_none room dist l = record {
  long = rw length-set l;
  stepped = record {
    not_above = λ v h. ap up (first v h);
    upto = λ v h. omega (arith, ap dn (first v h));
    rises = λ j h. absurd (omega arith);
    level = λ j h. absurd (omega arith);
  };
}
  where
    first : (v : ℕ) → v ≤ 0 → get_or (set dist 0 (pos 0)) v (pos 0) ≡ pos 0
    first v h = (store (pos 0) dist 0 (pos 0) (omega arith)).here v (omega arith)

-- one cell more
module _ {j : ℕ} {room : List ℕ} {dist : List ℤ} {far : ℤ} (was : SteppedTo j room dist) (small : j < 127) (cell : PastCell (get_or dist j (pos 0)) (at room j) far) where
  abbrev next : List ℤ
  next = set dist (suc j) far

  laid : Stored (pos 0) dist (suc j) far next
  laid = store (pos 0) dist (suc j) far (omega (arith, was.long))

  here : get_or next (suc j) (pos 0) ≡ far
  here = laid.here (suc j) refl

  before : (v : ℕ) → v ≤ j → get_or next v (pos 0) ≡ get_or dist v (pos 0)
  before v h = laid.elsewhere v (λ q. omega arith)

  pub stepped_more : SteppedTo (suc j) room next
  stepped_more = record {
    long = rw length-set was.long;
    stepped = record {
      not_above = λ v h. ⊎_elim (λ (q : v ≡ suc j). rw q (ap up here ∙ cell.not_above)) (λ n. ap up (before v (omega arith)) ∙ was.stepped.not_above v (omega arith)) (same_or_not v (suc j));
      upto = λ v h. ⊎_elim (λ (q : v ≡ suc j). rw q (omega (arith, ap dn here, cell.small, was.stepped.upto j (omega arith)))) (λ n. omega (arith, ap dn (before v (omega arith)), was.stepped.upto v (omega arith))) (same_or_not v (suc j));
      rises = λ i h. ⊎_elim (λ (q : i ≡ j). rw q (omega (arith, ap dn here, ap dn (before j (omega arith)), cell.rises))) (λ n. omega (arith, ap dn (before i (omega arith)), ap dn (before (suc i) (omega arith)), was.stepped.rises i (omega arith))) (same_or_not i j);
      level = λ i h r. ⊎_elim (λ (q : i ≡ j). rw q (omega (arith, ap dn here, ap dn (before j (omega arith)), cell.level (rw q at r)))) (λ n. omega (arith, ap dn (before i (omega arith)), ap dn (before (suc i) (omega arith)), was.stepped.level i (omega arith) r)) (same_or_not i j);
    };
  }
