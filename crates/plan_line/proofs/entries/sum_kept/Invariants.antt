-- Each turn adds one more profit and counts one more, or nothing. Assumes nothing.
use Rattle.base_sums.specs.Turns.{Running}
use Rattle.paper_book.specs.Columns.{at}
use Rattle.plan_line.specs.Totals.{over_kept}
use Rattle.plan_line.proofs.entries.sum_kept.Given as goal

abbrev pub invariant-loop-i : goal.invariant-loop-i
invariant-loop-i l = Running 1000000 (over_kept l.kept (at l.profit)) l.i l.earned × Running 1 (over_kept l.kept (λ i. 1)) l.i l.number
