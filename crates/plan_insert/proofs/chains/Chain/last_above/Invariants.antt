-- The loop's invariant: k is a link of the chain above e. The measure is k. Assumes nothing.
use Rattle.plan_insert.specs.Joining.{CanFollow}
use Rattle.plan_insert.specs.Moves.{Way}
use Rattle.plan_insert.proofs.chains.Chain.last_above.Given as goal

abbrev pub invariant-loop-k : goal.invariant-loop-k
invariant-loop-k l = (w : CanFollow l.self.next l.j l.e) → Way w l.k

abbrev pub decreases-loop-k : goal.decreases-loop-k
decreases-loop-k l = l.k
