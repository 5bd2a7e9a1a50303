-- What stands at a place of a list, past its end 0 or false; in a new list, and after one store. Assumes nothing.
use Rattle.std.specs.Prelude.{◌≡◌, refl, Bool, false, List, ℕ, zero, suc, ◌≤◌, ◌<◌, get_or, replicate, length, set}
use Rattle.std.proofs.Common.{get_or-set_same, get_or-set_other}

abbrev pub at : List ℕ → ℕ → ℕ
at xs i = get_or xs i 0

abbrev pub flag : List Bool → ℕ → Bool
flag xs i = get_or xs i false

-- in a new list, whose places all hold d, it is d everywhere
pub fresh : {A : Type 0} (d : A) (n i : ℕ) → get_or (replicate n d) i d ≡ d
fresh d zero i = refl
fresh d (suc n) zero = refl
fresh d (suc n) (suc i) = fresh d n i

pub zeros : (n i : ℕ) → at (replicate n 0) i ≡ 0
zeros = fresh 0

-- a column of at most 256 numbers, each below a bound: places of an array of that length, or nodes, or numbers of requests
pub record NumbersBelow (bound count : ℕ) (xs : List ℕ) : Type 0 where
  pub few : count ≤ 256
  pub below : (i : ℕ) → i < count → at xs i < bound

-- or at most a bound: profits, channels, entries
pub record NumbersUpto (most count : ℕ) (xs : List ℕ) : Type 0 where
  pub few : count ≤ 256
  pub upto : (i : ℕ) → i < count → at xs i ≤ most

-- ---- after one store

-- ys is xs with v stored at place i: v stands there, and at any other place what stood there
pub record Stored {A : Type 0} (d : A) (xs : List A) (i : ℕ) (v : A) (ys : List A) : Type 0 where
  pub here : (j : ℕ) → j ≡ i → get_or ys j d ≡ v
  pub elsewhere : (j : ℕ) → (j ≡ i → ⊥) → get_or ys j d ≡ get_or xs j d

pub store : {A : Type 0} (d : A) (xs : List A) (i : ℕ) (v : A) → i < length xs → Stored d xs i v (set xs i v)
store d xs i v l = record { here = λ j q. rw q (get_or-set_same xs i v d l); elsewhere = λ j n. get_or-set_other xs i j v d n }
