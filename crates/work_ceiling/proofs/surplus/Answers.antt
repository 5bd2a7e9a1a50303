use native.Mathlib.Omega.{arith}
use Rattle.base_sums.specs.Turns.{running_none, running_more}
use Rattle.work_ceiling.proofs.surplus.Goals as goal

pub loop-i-init : goal.loop-i-init
loop-i-init c = running_none

pub loop-i-preserved : goal.loop-i-preserved
loop-i-preserved c =
    let pre = c.requires in
    let l = c.loop-i in
    let upto = pre.profits_in.upto l.i (omega arith) in
    running_more _ l.invariant (omega (arith, c.fare_of-fare.ensures)) (omega arith)
