-- `plan_insert::marks::Marks::nearest` meets its contract. The loop's invariant: best is the place of the least label among those from i on.
-- Assumes nothing.
use Rattle.plan_insert.specs.Least.{LeastFrom}
use Rattle.plan_insert.proofs.marks.Marks.nearest.Given as goal

abbrev pub invariant-loop-i : goal.invariant-loop-i
invariant-loop-i l = LeastFrom l.self.label l.self.list l.self.size l.i l.best l.least
