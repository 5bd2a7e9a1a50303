use Rattle.std.proofs.Common.{arith}
use Rattle.plan_insert.specs.Depths.{deepened_lowered}
use Rattle.plan_insert.proofs.insert.deepen.Goals as goal

pub loop-v-preserved : goal.loop-v-preserved
loop-v-preserved c = rw c.saturating_sub.ensures (deepened_lowered c.requires.cells_bound c.requires.below c.loop-v.invariant (omega arith))
