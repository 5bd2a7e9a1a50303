-- What the functions of this crate promise: a line's columns laid as a row, its best set, and the prices of its cells. Assumes nothing.
use Rattle.std.specs.Prelude.{Bool, List, ◌≡◌, ℕ, suc, ◌≤◌, ◌<◌, min, max, get_or, length, ℤ, pos}
use Rattle.base_sums.specs.At.{at, NumbersUpto}
use Rattle.base_sums.specs.Filled.{Filled}
use Rattle.base_signed.specs.Parts.{up, dn}
use Rattle.base_columns.specs.declared.Columns.{Columns}
use Rattle.law_row.specs.Clamp.{clamp}
use Rattle.law_flow.specs.Balanced.{price_at}
use Rattle.plan_insert.specs.State.{depth, lowest, Standing}

-- the first n requests as candidates: over the cells from the lower end up to the upper one, at a cost of minus the profit
pub record Candidates (n : ℕ) (a b profits lo hi : List ℕ) (cost : List ℤ) : Type 0 where
  pub lower : Filled (λ i. min (at a i) (at b i)) n lo
  pub upper : Filled (λ i. max (at a i) (at b i)) n hi
  pub not_above : (i : ℕ) → i < n → up (get_or cost i (pos 0)) ≡ 0
  pub profit : (i : ℕ) → i < n → depth cost i ≡ at profits i

-- a row of at most 63 cells that the requests lie on, each over some cell
pub record CanSolve (cells count : ℕ) (limits a b profits : List ℕ) : Type 0 where
  pub cells_upto : cells ≤ 63
  pub profits_in : NumbersUpto 1000000 count profits
  pub a_node : (i : ℕ) → i < count → at a i ≤ cells
  pub b_node : (i : ℕ) → i < count → at b i ≤ cells
  pub ends_differ : (i : ℕ) → i < count → at a i ≡ at b i → ⊥
  pub limits_upto : (j : ℕ) → j < cells → at limits j ≤ 1000

-- lent columns that are one
abbrev pub SolvableColumns : Columns → Type 0
SolvableColumns c = CanSolve (length c.limits.now) (length c.a.now) c.limits.now c.a.now c.b.now c.profit.now

-- the candidates, and what the row planner left: `free` was the room before it kept any, `room` is what is left of it
pub record Solves (cells count : ℕ) (limits a b profits lo hi : List ℕ) (kept : List Bool) (dist : List ℤ) : Type 0 where
  pub cost : List ℤ
  pub candidates : Candidates count a b profits lo hi cost
  pub free : List ℕ
  pub free_is : Filled (at limits) cells free
  pub room : List ℕ
  pub standing : Standing (at free) count cells count lo hi cost kept room dist

-- from one distance to the next it falls, if it does not stay
pub record Falls (near far : ℤ) : Type 0 where
  pub near_not_above : up near ≡ 0
  pub far_not_above : up far ≡ 0
  pub far_low : dn far ≤ lowest
  pub falls : dn near ≤ dn far

-- along the whole row
pub record Falling (cells : ℕ) (dist : List ℤ) : Type 0 where
  pub cells_upto : cells ≤ 63
  pub at_cell : (j : ℕ) → j < cells → Falls (get_or dist j (pos 0)) (get_or dist (suc j) (pos 0))

-- the prices of the cells: what the distance falls by, but no more than 1,000,000
abbrev pub prices_of : List ℤ → ℕ → ℕ
prices_of dist = clamp 1000000 (price_at (depth dist))
