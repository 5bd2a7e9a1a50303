-- Each turn lays one request: the smaller end is the lower one, whichever it is, and its cost is minus its profit; the cells stay. Assumes nothing.
use Rattle.std.specs.Prelude.{◌≡◌}
use Rattle.plan_row.specs.Laying.{Laying}
use Rattle.plan_row.proofs.lay.Given as goal

abbrev pub invariant-loop-i : goal.invariant-loop-i
invariant-loop-i l =
    (l.row.cells ≡ l.initial.row.cells) × Laying l.i l.a l.b l.columns.profit.now l.row.lo l.row.hi l.row.cost
