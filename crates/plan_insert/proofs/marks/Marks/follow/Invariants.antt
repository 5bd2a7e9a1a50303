-- The chain of the candidates of a side that have an end at u is followed from its head to its end: `Chains` has each turn. The measure is the number
-- of the link. Assumes nothing.
use Rattle.plan_insert.specs.Chains.{Followed}
use Rattle.plan_insert.specs.Lent.{stays, marks_of}
use Rattle.plan_insert.proofs.marks.Marks.follow.Given as goal

abbrev pub invariant-loop-i : goal.invariant-loop-i
invariant-loop-i l =
    let g = l.ground in
    Followed (stays l.side) g.row.now.cells g.t g.row.now.lo g.row.now.hi g.row.now.cost g.kept.now g.room.now g.dist.now l.most l.u (marks_of l.initial.self) (marks_of l.self) l.i

abbrev pub decreases-loop-i : goal.decreases-loop-i
decreases-loop-i l = l.i
