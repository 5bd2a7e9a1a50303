-- Each turn copies one candidate from its number to its place; the cells stay. Assumes nothing.
use Rattle.std.specs.Prelude.{◌≡◌}
use Rattle.plan_row.specs.Arranging.{Arranging}
use Rattle.plan_row.proofs.arrange.Given as goal

abbrev pub invariant-loop-i : goal.invariant-loop-i
invariant-loop-i l =
    (l.arranged.cells ≡ l.initial.arranged.cells) × Arranging l.i l.order l.row.lo l.row.hi l.row.cost l.arranged.lo l.arranged.hi l.arranged.cost
