use native.Mathlib.Numerals.{add-one}
use Rattle.plan_insert.specs.Planning.{planning_starts, planning_goes_on}
use Rattle.plan_insert.proofs.plan_row.Goals as goal

pub loop-t-init : goal.loop-t-init
loop-t-init c = planning_starts c.requires _ _ _ c.begin.ensures

pub loop-t-preserved : goal.loop-t-preserved
loop-t-preserved c =
    rw add-one (planning_goes_on c.requires c.loop-t.invariant c.loop-t-test.true c.insert.ensures.standing c.insert.ensures.chains)
