-- Each turn copies one mark from its place to its number. Assumes nothing.
use Rattle.plan_row.specs.Arranging.{PuttingBack}
use Rattle.plan_row.proofs.put_back.Given as goal

abbrev pub invariant-loop-r : goal.invariant-loop-r
invariant-loop-r l = PuttingBack l.r l.place l.keeps l.kept
