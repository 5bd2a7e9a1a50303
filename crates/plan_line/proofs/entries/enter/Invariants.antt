-- Each turn writes one entry, below the count: 0, or the way up or down and the channel. Assumes nothing.
use Rattle.std.proofs.Common.{length}
use Rattle.base_sums.specs.Vacant.{Vacant}
use Rattle.plan_line.specs.Entering.{Entering}
use Rattle.plan_line.proofs.entries.enter.Given as goal

abbrev pub invariant-loop-i : goal.invariant-loop-i
invariant-loop-i l = Entering l.i l.a l.b l.kept l.channel l.entries × (Vacant 0 (length l.a) 256 l.initial.entries → Vacant 0 (length l.a) 256 l.entries)
