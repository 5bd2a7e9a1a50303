-- `check_rules::laid::Laid::channels_apart` meets its contract: with the lists made it is the turn of node 0, each node's turns end in the next one's, and a clash ends the
-- loop; past the last span all that cross one had their turn. Assumes nothing.
use Rattle.std.proofs.Common.{length}
use Rattle.check_rules.specs.Sweep.{Swept}
use Rattle.check_rules.proofs.laid.Laid.channels_apart.Given as goal

abbrev pub invariant-loop-v : goal.invariant-loop-v
invariant-loop-v l = Swept (length l.columns.a.now) l.self.lo l.self.hi l.self.crossing l.self.channel l.ends l.v 0
