-- The loop's invariant: the nodes before v are deepened, the others are as before. Assumes nothing.
use Rattle.plan_insert.specs.Depths.{DeepenedTo}
use Rattle.plan_insert.proofs.insert.deepen.Given as goal

abbrev pub invariant-loop-v : goal.invariant-loop-v
invariant-loop-v l = DeepenedTo l.v l.cells l.to l.label l.initial.dist l.dist
