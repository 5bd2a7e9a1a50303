use native.Mathlib.Omega.{arith}
use Rattle.work_ceiling.specs.Tolls.{tolling_none, tolling_more, rent_upto}
use Rattle.work_ceiling.proofs.rent.Goals as goal

pub loop-s-init : goal.loop-s-init
loop-s-init c = tolling_none c.args.toll.now (omega arith)

-- what the span at hand adds
pub overflow_add-rented : goal.overflow_add-rented
overflow_add-rented c =
    let pre = c.requires in
    omega (arith, rent_upto _ _ (pre.limit_upto c.loop-s.s (omega arith)) (pre.price_upto c.loop-s.s (omega arith)))

pub loop-s-preserved : goal.loop-s-preserved
loop-s-preserved c =
    let pre = c.requires in
    tolling_more c.loop-s.invariant (omega arith) (pre.limit_upto _ (omega arith)) (pre.price_upto _ (omega arith))
