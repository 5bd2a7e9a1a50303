-- `check_plan::totals::earned` meets its contract: each turn adds one kept profit. Assumes nothing.
use Rattle.base_sums.specs.Turns.{Running}
use Rattle.paper_book.specs.Bytes.{entry_in}
use Rattle.check_plan.specs.Totals.{earning}
use Rattle.check_plan.proofs.totals.earned.Given as goal

abbrev pub invariant-loop-i : goal.invariant-loop-i
invariant-loop-i l = Running 1000000 (earning l.profits (entry_in l.entries)) l.i l.sum
