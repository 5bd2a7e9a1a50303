use Rattle.std.proofs.Common.{rules, add-one, arith, get_or, pos, w64, SFits}
use Rattle.base_signed.specs.Bits.{known, back}
use Rattle.plan_insert.specs.Begin.{stepped_more}
use Rattle.plan_insert.proofs.steps.lay.Goals as goal

pub loop-j-preserved : goal.loop-j-preserved
loop-j-preserved c =
    let l = c.loop-j in
    let f : SFits w64 (get_or c.loop-j.dist c.loop-j.j (pos 0)) = search rules in
    rw (add-one, back (known _ c.past.type_inv)) (stepped_more l.invariant (omega arith) (rw (back f) at c.past.ensures))
