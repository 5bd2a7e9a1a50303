use Rattle.std.proofs.Common.{arith}
use Rattle.base_sums.specs.Vacant.{vacant_new}
use Rattle.work_columns.specs.Columned.{columned_none, columned_more}
use Rattle.work_columns.proofs.columns.Goals as goal

pub loop-i-init : goal.loop-i-init
loop-i-init c = columned_none _ (vacant_new 0 0 256)

pub loop-i-preserved : goal.loop-i-preserved
loop-i-preserved c = columned_more _ c.loop-i.invariant (omega arith)
