-- Room on the cells between two nodes, or on the spans: seen to be there cell by cell, and taken cell by cell, so that the cells passed have one less and the
-- others are as before. Assumes nothing.
use Rattle.std.specs.Prelude.{◌≡◌, refl, List, [], ◌∷◌, ℕ, zero, suc, ◌+◌, ◌-◌, ◌≤◌, ◌<◌, min, length, set}
use Rattle.std.proofs.Common.{⊎_elim, arith}
use Rattle.base_sums.specs.Each.{same_or_not}
use Rattle.base_sums.specs.At.{at, Stored, store}
use Rattle.base_sums.specs.Between.{between, between_none, between_join, at_most_one, only_one, no_other_between}

-- every cell from a to i - 1 has room
pub record RoomTo (a i : ℕ) (room : List ℕ) : Type 0 where
  pub some : (j : ℕ) → a ≤ j → j < i → 0 < at room j

pub room_none : (a : ℕ) (room : List ℕ) → RoomTo a a room
room_none a room = record { some = λ j h l. absurd (omega arith) }

pub room_next : {a i : ℕ} {room : List ℕ} → RoomTo a i room → (at room i ≡ 0 → ⊥) → RoomTo a (i + 1) room
room_next {a} {i} {room} seen here = record {
  some = λ j h l. ⊎_elim (λ (q : j ≡ i). rw q (omega arith)) (λ n. seen.some j h (omega arith)) (same_or_not j i);
}

-- ---- taking room, one cell more

-- past its end an array holds 0
inside : (xs : List ℕ) (i : ℕ) → 0 < at xs i → i < length xs
inside [] i h = absurd (omega arith)
inside (x ∷ xs) zero h = omega arith
inside (x ∷ xs) (suc i) h = omega (arith, inside xs i h)

-- one of room is taken on every cell from a to i - 1, as far as b
pub record TakenTo (a b i : ℕ) (room₀ room : List ℕ) : Type 0 where
  pub past : a ≤ i
  pub less : (j : ℕ) → at room j + between a (min i b) j ≡ at room₀ j

pub taken_none : (a b : ℕ) (room : List ℕ) → TakenTo a b a room room
taken_none a b room = record { past = omega arith; less = λ j. omega (arith, between_none a (min a b) j (omega arith)) }

pub taken_all : {a b i : ℕ} {room₀ room : List ℕ} → TakenTo a b i room₀ room → b ≤ i → (j : ℕ) → at room j + between a b j ≡ at room₀ j
taken_all {a} {b} {i} taken l j = let m : min i b ≡ b = omega arith in rw m at (taken.less j)

module _ {a b i : ℕ} {room₀ room : List ℕ} (taken : TakenTo a b i room₀ room) (l : i < b) (given : (j : ℕ) → a ≤ j → j < b → 0 < at room₀ j) where
  before : (j : ℕ) → at room j + between a i j ≡ at room₀ j
  before j = let m : min i b ≡ i = omega arith in rw m at (taken.less j)

  one_more : (j : ℕ) → between a i j + between i (i + 1) j ≡ between a (i + 1) j
  one_more j = between_join a i (i + 1) j taken.past (omega arith)

  -- the cell that comes next is as it was
  pub taken_room : 0 < at room i
  taken_room = omega (arith, given i taken.past l, before i, one_more i, only_one i, at_most_one a (i + 1) i)

  pub taken_next : TakenTo a b (i + 1) room₀ (set room i (at room i - 1))
  taken_next = record { past = omega (arith, taken.past); less = λ j. let m : min (i + 1) b ≡ i + 1 = omega arith in rw m (⊎_elim (here j) (other j) (same_or_not j i)) }
    where
      less_here : Stored 0 room i (at room i - 1) (set room i (at room i - 1))
      less_here = store 0 room i (at room i - 1) (inside room i taken_room)

      here : (j : ℕ) → j ≡ i → at (set room i (at room i - 1)) j + between a (i + 1) j ≡ at room₀ j
      here j q = rw q (omega (arith, less_here.here i refl, taken_room, before i, one_more i, only_one i))

      other : (j : ℕ) → (j ≡ i → ⊥) → at (set room i (at room i - 1)) j + between a (i + 1) j ≡ at room₀ j
      other j n = omega (arith, less_here.elsewhere j n, before j, one_more j, no_other_between i j n)
