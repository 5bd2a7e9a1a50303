-- `plan_ring::best_cut` meets its contract: the best so far is the lowest of the greatest among the cuts tried; a cut that earns more takes its place, and
-- one that is passed over does not earn more. Assumes nothing.
use Rattle.plan_ring.specs.Promise.{RingLent}
use Rattle.plan_ring.specs.Choosing.{BestBelow}
use Rattle.plan_ring.proofs.best_cut.Given as goal

abbrev pub invariant-loop-j : goal.invariant-loop-j
invariant-loop-j l = (w : RingLent l.ring) → BestBelow w.book l.j l.best l.top
