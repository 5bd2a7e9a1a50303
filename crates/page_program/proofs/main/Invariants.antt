-- What was read lies inside the buffer, and each read leaves less of it. Assumes nothing.
use Rattle.std.proofs.Common.{◌≤◌, ◌-◌}
use Rattle.page_program.proofs.main.Given as goal

abbrev pub invariant-loop-n : goal.invariant-loop-n
invariant-loop-n l = l.n ≤ 8192

abbrev pub decreases-loop-n : goal.decreases-loop-n
decreases-loop-n l = 8192 - l.n
