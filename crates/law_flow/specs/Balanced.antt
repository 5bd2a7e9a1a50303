-- What the insertion method keeps true after its first t candidates: the kept flags x, the spare room s of each cell, and for each node of
-- the row (cell j joins node j and node j + 1) how deep it lies, N: the flow's signed distance is minus N. No arc of the residual network
-- can deepen a node any more. With the price of cell j put at N (j + 1) − N j that is the certificate `Tight`. Assumes nothing.
use Rattle.std.specs.Prelude.{Bool, true, false, ◌&&◌, ◌≡◌, ℕ, suc, ◌+◌, ◌-◌, ◌≤◌, ◌<◌}
use Rattle.base_sums.specs.Sums.{Σ, bit}
use Rattle.law_row.specs.Row.{Row, covers}
pub use Rattle.law_row.specs.Row.{Proper}

-- how many of the first t candidates that x keeps are over cell j
unfoldable pub load_to : Row → ℕ → (ℕ → Bool) → ℕ → ℕ
load_to row t x j = Σ t (λ i. bit (x i && covers row i j))

-- no residual arc deepens a node: forward along a cell, back along one with spare room, along a dropped candidate, back along a kept one
pub record Deep (row : Row) (t : ℕ) (x : ℕ → Bool) (s N : ℕ → ℕ) : Type 0 where
  pub rises : (j : ℕ) → j < row.cells → N j ≤ N (suc j)
  pub level : (j : ℕ) → j < row.cells → 0 < s j → N (suc j) ≤ N j
  pub paid : (i : ℕ) → i < t → x i ≡ true → N (row.hi i) ≤ N (row.lo i) + row.profit i
  pub dropped : (i : ℕ) → i < t → x i ≡ false → N (row.lo i) + row.profit i ≤ N (row.hi i)

pub record Balanced (row : Row) (t : ℕ) (x : ℕ → Bool) (s N : ℕ → ℕ) : Type 0 where
  pub room : (j : ℕ) → j < row.cells → s j + load_to row t x j ≡ row.limit j
  pub deep : Deep row t x s N

-- the price of cell j
unfoldable pub price_at : (ℕ → ℕ) → ℕ → ℕ
price_at N j = N (suc j) - N j
