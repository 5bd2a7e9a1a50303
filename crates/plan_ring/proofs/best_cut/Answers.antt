use native.Mathlib.Omega.{arith}
use Rattle.plan_ring.specs.Turned.{some_nodes}
use Rattle.plan_ring.specs.Known.{low_none}
use Rattle.plan_ring.specs.Choosing.{best_better, best_stays, best_chosen}
use Rattle.plan_ring.proofs.best_cut.Goals as goal
use Rattle.plan_ring.proofs.best_cut.Goals.{then-top-earned, else-top-earned}

pub cut_earnings-top-requires-clause-j_in_ring : goal.cut_earnings-top-requires-clause-j_in_ring
cut_earnings-top-requires-clause-j_in_ring c = omega (arith, some_nodes c.requires)

-- no prices yet
pub invariant_of-known : goal.invariant_of-known
invariant_of-known c = record { low = low_none }

pub loop-j-preserved : goal.loop-j-preserved
loop-j-preserved c w =
    let l = c.loop-j in
    let tried = c.raised-earned.ensures w in
    elim c.if-top-earned.branch [
      | then-top-earned x ↦ rw (x.top-is, x.best-is) (best_better (l.invariant w) tried x.if-top-earned.true)
      | else-top-earned x ↦ rw (x.top-is, x.best-is) (best_stays (l.invariant w) tried x.if-top-earned.false)
    ]

pub returns : goal.returns
returns c w = let l = c.loop-j in best_chosen w.ring (omega (arith, w.nodes_is)) (l.invariant w)
