-- A ring's lent columns, and the columns of the line which a cut leaves. Assumes nothing.
use Rattle.std.specs.Prelude.{◌≡◌, ℕ, ◌-◌, length}
use Rattle.base_columns.specs.declared.Columns as Declared
use Rattle.plan_turn.specs.declared.CutColumns.{CutColumns}
use Rattle.plan_turn.specs.Nodes.{Nodes, Turned}

abbrev pub Columns : Type 0
Columns = Declared.Columns

-- both columns of ends can be turned
abbrev pub CanTurn : Columns → ℕ → Type 0
CanTurn ring j = Nodes (length ring.limits.now) j (length ring.a.now) ring.a.now × Nodes (length ring.limits.now) j (length ring.b.now) ring.b.now

-- the lists hold the ring's columns along the line which cut j leaves
abbrev pub CutTurned : Columns → ℕ → CutColumns → Type 0
CutTurned ring j made = Turned (length ring.limits.now) j (length ring.a.now) ring.limits.now ring.a.now ring.b.now made.limits made.a made.b

-- these are that line's columns
pub record CutLine (ring : Columns) (j : ℕ) (line : Columns) : Type 0 where
  pub spans_is : length line.limits.now ≡ length ring.limits.now - 1
  pub count_is : length line.a.now ≡ length ring.a.now
  pub profit_is : line.profit.now ≡ ring.profit.now
  pub turned : Turned (length ring.limits.now) j (length ring.a.now) ring.limits.now ring.a.now ring.b.now line.limits.now line.a.now line.b.now
