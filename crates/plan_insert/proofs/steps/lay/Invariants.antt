-- The loop's invariant: the row is laid as far as node j. Assumes nothing.
use Rattle.plan_insert.specs.Begin.{SteppedTo}
use Rattle.plan_insert.proofs.steps.lay.Given as goal

abbrev pub invariant-loop-j : goal.invariant-loop-j
invariant-loop-j l = SteppedTo l.j l.room l.dist
