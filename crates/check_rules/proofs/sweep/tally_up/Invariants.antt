-- `check_rules::sweep::tally_up` meets its contract: each turn counts one node more. Assumes nothing.
use Rattle.check_rules.specs.Loads.{Tallied}
use Rattle.check_rules.proofs.sweep.tally_up.Given as goal

abbrev pub invariant-loop-v : goal.invariant-loop-v
invariant-loop-v l = Tallied l.v-index l.nodes l.tally
