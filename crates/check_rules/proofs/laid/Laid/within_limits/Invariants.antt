-- `check_rules::laid::Laid::within_limits` meets its contract: each turn is a step of `Loaded`, and a span above its limit ends the loop. Assumes nothing.
use Rattle.std.proofs.Common.{length}
use Rattle.check_rules.specs.Loads.{Loaded}
use Rattle.check_rules.proofs.laid.Laid.within_limits.Given as goal

abbrev pub invariant-loop-s : goal.invariant-loop-s
invariant-loop-s l = Loaded l.columns.limits.now (length l.columns.a.now) l.self.lo l.self.hi l.s l.load
