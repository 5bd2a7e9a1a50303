-- Below the last node the arc up is tried, at the last one there is none: `CellArcs` has both. Assumes nothing.
use native.Mathlib.Omega.{arith}
use Rattle.plan_insert.specs.CellArcs.{rise_relaxed}
use Rattle.plan_insert.proofs.marks.Marks.rise.Goals as goal

pub returns-then-u-ground : goal.returns-then-u-ground
returns-then-u-ground c = rise_relaxed c.args.ground.now.ready (omega arith) (omega arith) c.try_arc.ensures
