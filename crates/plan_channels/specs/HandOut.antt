-- What the functions of this crate promise. Assumes nothing.
use Rattle.std.specs.Prelude.{Bool, false, List, ◌≡◌, ℕ, ◌≤◌, ◌<◌, Result, IsOk, ⊤}
pub use Rattle.base_sums.specs.At.{at, flag}
use Rattle.law_row.specs.Row.{Row, Proper, load}
use Rattle.law_row.specs.Channels.{Ruled}
use Rattle.plan_channels.specs.declared.NoneLeft.{NoneLeft}

-- the row of the intervals; limits and profits play no part in the rule
abbrev pub row_on : ℕ → ℕ → List ℕ → List ℕ → Row
row_on cells count lo hi = record { cells = cells; limit = λ j. 0; count = count; lo = at lo; hi = at hi; profit = λ i. 0 }

-- At most 256 real intervals on at most 127 cells, at most 96 channels, and no cell under more kept ones than there are channels: a kept set within its
-- limits is such a one.
pub record CanHandOut (cells count k : ℕ) (lo hi : List ℕ) (kept : List Bool) : Type 0 where
  pub cells_upto : cells ≤ 127
  pub count_upto : count ≤ 256
  pub k_upto : k ≤ 96
  pub proper : Proper (row_on cells count lo hi) count
  pub fits : (j : ℕ) → j < cells → load (row_on cells count lo hi) (flag kept) j ≤ k

-- every kept one has the channel of the rule, one of 1 to k, and the others have 0; refusal 15 is never the answer
pub record HandedOut (cells count k : ℕ) (lo hi : List ℕ) (kept : List Bool) (given : Result ⊤ NoneLeft) (channel : List ℕ) : Type 0 where
  pub all : IsOk given
  pub ruled : Ruled (row_on cells count lo hi) k (flag kept) (at channel)
  pub upto : (i : ℕ) → i < count → at channel i ≤ k
  pub none : (i : ℕ) → i < count → flag kept i ≡ false → at channel i ≡ 0
