-- The pass over the requests: what all of them, kept or not, have above the prices they cross. Assumes nothing.
use Rattle.std.specs.Prelude.{List, ℕ, ◌-◌, ◌≤◌, ◌<◌, min, max}
use Rattle.base_sums.specs.At.{NumbersBelow, NumbersUpto}
use Rattle.paper_book.specs.Columns.{at}

-- the tolls between the two ends of request i
abbrev pub fare_at : List ℕ → List ℕ → List ℕ → ℕ → ℕ
fare_at a b toll i = at toll (max (at a i) (at b i)) - at toll (min (at a i) (at b i))

-- what request i has above them
abbrev pub gain_at : List ℕ → List ℕ → List ℕ → List ℕ → ℕ → ℕ
gain_at a b profits toll i = at profits i - fare_at a b toll i

-- at most 256 requests between nodes, their profits within bounds, and tolls that do not fall
pub record CanSum (count : ℕ) (a b profits toll : List ℕ) : Type 0 where
  pub a_in : NumbersBelow 64 count a
  pub b_in : NumbersBelow 64 count b
  pub profits_in : NumbersUpto 1000000 count profits
  pub rising : (i : ℕ) → i < count → at toll (min (at a i) (at b i)) ≤ at toll (max (at a i) (at b i))
