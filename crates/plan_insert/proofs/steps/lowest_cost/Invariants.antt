-- The loop's invariant: what was found so far is not above 0 and not below −1,000,000. Assumes nothing.
use Rattle.plan_insert.specs.State.{Fall}
use Rattle.plan_insert.proofs.steps.lowest_cost.Given as goal

abbrev pub invariant-loop-c : goal.invariant-loop-c
invariant-loop-c l = Fall l.low
