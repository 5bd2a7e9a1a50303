-- From the first node there is no arc down, from another it is tried where the cell below has room: `CellArcs` has each way. Assumes nothing.
use native.Mathlib.Omega.{arith}
use Rattle.plan_insert.specs.CellArcs.{fall_relaxed}
use Rattle.plan_insert.proofs.marks.Marks.fall.Goals as goal

pub returns-then-ground-u-gt0 : goal.returns-then-ground-u-gt0
returns-then-ground-u-gt0 c = fall_relaxed c.args.ground.now.ready (omega arith) (omega arith) (omega arith) c.try_arc.ensures
