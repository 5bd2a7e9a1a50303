-- `plan_ring::known::places` meets its contract: each turn puts the span of one place. Assumes nothing.
use Rattle.base_sums.specs.Filled.{Filled}
use Rattle.paper_rules.specs.Cuts.{span_at}
use Rattle.plan_ring.proofs.known.places.Given as goal

abbrev pub invariant-loop-t : goal.invariant-loop-t
invariant-loop-t l = Filled (span_at l.nodes l.j) l.t l.place
