-- `plan_row` meets its contract. The loop's invariant: after t turns the row stands with its first t candidates, at the limits that `room` held
-- on entry, and the chains hold just those, by their flags. Assumes nothing.
use Rattle.plan_insert.specs.State.{at}
use Rattle.plan_insert.specs.Planning.{Planning}
use Rattle.plan_insert.specs.Lent.{links_of}
use Rattle.plan_insert.proofs.plan_row.Given as goal

abbrev pub invariant-loop-t : goal.invariant-loop-t
invariant-loop-t l =
    Planning (at l.initial.room) l.count l.row.cells l.t l.row.lo l.row.hi l.row.cost l.planned.kept l.room l.planned.dist (links_of l.planner.chains)
