-- The search for a way from node b back to node a along residual arcs, nearest node first. The length of an arc is what it would have to
-- be shortened by to deepen its far end: never below 0, by `Deep`. Labels d start at `most` (a way of that length gains nothing); rank is
-- 0 until a node is settled and then counts up; by and from say by which arc and from which node a label came. Assumes nothing.
use Rattle.std.specs.Prelude.{Bool, true, false, ◌≡◌, ℕ, suc, ◌+◌, ◌≤◌, ◌<◌}
use Rattle.law_row.specs.Row.{Row}
use Rattle.law_flow.specs.Balanced.{Deep}

-- What a search goes over, fixed while it runs: the row, its first t candidates (t at most 256), and the state that they left.
pub record Ground : Type 0 where
  pub row : Row
  pub t : ℕ
  pub x : ℕ → Bool
  pub s : ℕ → ℕ
  pub N : ℕ → ℕ

-- its depths are deep: no arc deepens a node
abbrev pub DeepAt : Ground → Type 0
DeepAt g = Deep g.row g.t g.x g.s g.N

-- label d v came along arc e from u: up a cell (256), back down a cell with room (257), along dropped candidate e, back along kept candidate e.
-- The equations say that d v is d u and the arc's length.
pub data Came (g : Ground) (d : ℕ → ℕ) (e u v : ℕ) : Type 0 where
  up : e ≡ 256 → v ≡ suc u → v ≤ g.row.cells → d v + g.N u ≡ d u + g.N v → Came g d e u v
  down : e ≡ 257 → u ≡ suc v → v < g.row.cells → 0 < g.s v → d v + g.N u ≡ d u + g.N v → Came g d e u v
  along : e < g.t → g.x e ≡ false → u ≡ g.row.lo e → v ≡ g.row.hi e → d v + (g.N u + g.row.profit e) ≡ d u + g.N v → Came g d e u v
  back : e < g.t → g.x e ≡ true → u ≡ g.row.hi e → v ≡ g.row.lo e → d v + g.N u ≡ d u + (g.N v + g.row.profit e) → Came g d e u v

-- the label at the end of an arc out of u is no longer than the way through u: of a cell to v, dropped candidate i, kept candidate i
abbrev pub CellHolds : Ground → (ℕ → ℕ) → ℕ → ℕ → Type 0
CellHolds g d u v = d v + g.N u ≤ d u + g.N v

abbrev pub AlongHolds : Ground → (ℕ → ℕ) → ℕ → ℕ → Type 0
AlongHolds g d u i = d (g.row.hi i) + (g.N u + g.row.profit i) ≤ d u + g.N (g.row.hi i)

abbrev pub BackHolds : Ground → (ℕ → ℕ) → ℕ → ℕ → Type 0
BackHolds g d u i = d (g.row.lo i) + g.N u ≤ d u + (g.N (g.row.lo i) + g.row.profit i)

-- every arc out of u has been looked at, of the candidates those from number lit on (dropped ones, by their first node) and from number dim on
-- (kept ones, by their last node)
pub record Spread (g : Ground) (d : ℕ → ℕ) (u lit dim : ℕ) : Type 0 where
  pub up : u < g.row.cells → CellHolds g d u (suc u)
  pub down : (v : ℕ) → suc v ≡ u → v < g.row.cells → 0 < g.s v → CellHolds g d u v
  pub along : (i : ℕ) → lit ≤ i → i < g.t → g.x i ≡ false → g.row.lo i ≡ u → AlongHolds g d u i
  pub back : (i : ℕ) → dim ≤ i → i < g.t → g.x i ≡ true → g.row.hi i ≡ u → BackHolds g d u i

-- the labels as they stand, with `clock` the next rank
pub record Labels (g : Ground) (b most : ℕ) (d rank by from : ℕ → ℕ) (clock : ℕ) : Type 0 where
  pub root : d b ≡ 0
  pub upto : (v : ℕ) → v ≤ g.row.cells → d v ≤ most
  pub ticks : 1 ≤ clock
  pub ranks : (v : ℕ) → v ≤ g.row.cells → rank v < clock
  pub below : (v : ℕ) → v ≤ g.row.cells → 0 < rank v → d v < most
  pub near : (u w : ℕ) → u ≤ g.row.cells → w ≤ g.row.cells → 0 < rank u → rank w ≡ 0 → d u ≤ d w
  pub came : (v : ℕ) → v ≤ g.row.cells → d v < most → (v ≡ b → ⊥) → Came g d (by v) (from v) v
  pub from_in : (v : ℕ) → v ≤ g.row.cells → d v < most → (v ≡ b → ⊥) → from v ≤ g.row.cells
  pub from_settled : (v : ℕ) → v ≤ g.row.cells → d v < most → (v ≡ b → ⊥) → 0 < rank (from v)
  pub from_earlier : (v : ℕ) → v ≤ g.row.cells → (v ≡ b → ⊥) → 0 < rank v → rank (from v) < rank v

-- between two settlings: all that is settled has spread
pub record Searching (g : Ground) (b most : ℕ) (d rank by from : ℕ → ℕ) (clock : ℕ) : Type 0 where
  pub labels : Labels g b most d rank by from clock
  pub spread : (u : ℕ) → u ≤ g.row.cells → 0 < rank u → Spread g d u 0 0

-- while u, the last one settled, spreads; `Part` says how far it has got
pub record Spreading (g : Ground) (b most : ℕ) (d rank by from : ℕ → ℕ) (clock u : ℕ) (Part : (ℕ → ℕ) → Type 0) : Type 0 where
  pub labels : Labels g b most d rank by from clock
  pub node : u ≤ g.row.cells
  pub settled : 0 < rank u
  pub last : (w : ℕ) → w ≤ g.row.cells → 0 < rank w → d w ≤ d u
  pub others : (w : ℕ) → w ≤ g.row.cells → 0 < rank w → (w ≡ u → ⊥) → Spread g d w 0 0
  pub part : Part d
