use Rattle.std.proofs.Common.{rules, arith, add-one, get_or, pos, ◌+◌, w64, SFits}
use Rattle.base_signed.specs.Bits.{back}
use Rattle.law_row.specs.Clamp.{clamp}
use Rattle.law_flow.specs.Balanced.{price_at}
use Rattle.plan_row.specs.Placing.{placed_more}
use Rattle.plan_row.proofs.price.Goals as goal

pub loop-j-preserved : goal.loop-j-preserved
unfolding clamp price_at
loop-j-preserved c =
    let l = c.loop-j in
    let near : SFits w64 (get_or c.args.dist.now l.j (pos 0)) = search rules in
    let far : SFits w64 (get_or c.args.dist.now (l.j + 1) (pos 0)) = search rules in
    placed_more _ c.requires.places l.invariant (omega arith) (rw (back near, back far, add-one) at c.capped.ensures)
