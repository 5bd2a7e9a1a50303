-- `plan_insert::search::Search::find` meets its contract. The loop's invariant is `Looking`: the labels are those of a search, the list has the open nodes
-- that have one, a is still open, and the clock and the open nodes come to one count, so the clock has only so far to go. Assumes nothing.
use Prim.Native.Nat.{◌+◌, ◌-◌}
use Rattle.plan_insert.specs.SearchLoop.{Looking}
use Rattle.plan_insert.specs.Grounds.{ground_of}
use Rattle.plan_insert.specs.Lent.{marks_of}
use Rattle.plan_insert.proofs.search.Search.find.Given as goal

abbrev pub invariant-loop-u : goal.invariant-loop-u
invariant-loop-u l = Looking (ground_of l.ground) l.a l.b l.most l.self.rank (marks_of l.self.marks) l.floor l.clock

abbrev pub decreases-loop-u : goal.decreases-loop-u
decreases-loop-u l = l.ground.row.now.cells + 2 - l.clock
