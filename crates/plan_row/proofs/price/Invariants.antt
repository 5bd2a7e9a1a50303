-- Each turn stores what the distance falls by along one cell, cut down to 1,000,000, at that cell's place. Assumes nothing.
use Rattle.plan_row.specs.Steps.{prices_of}
use Rattle.plan_row.specs.Placing.{Placed}
use Rattle.plan_row.proofs.price.Given as goal

abbrev pub invariant-loop-j : goal.invariant-loop-j
invariant-loop-j l = Placed (prices_of l.dist) l.place l.j l.initial.prices l.prices
