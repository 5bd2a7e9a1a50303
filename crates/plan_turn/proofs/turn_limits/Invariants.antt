-- `plan_turn::turn_limits` meets its contract: the first t limits stand in the line's order, and a store puts the next one. Assumes nothing.
use Rattle.base_sums.specs.Filled.{Filled}
use Rattle.paper_book.specs.Columns.{at}
use Rattle.paper_rules.specs.Cuts.{span_at}
use Rattle.plan_turn.proofs.turn_limits.Given as goal

abbrev pub invariant-loop-t : goal.invariant-loop-t
invariant-loop-t l = Filled (λ k. at l.limits (span_at l.n l.j k)) l.t l.turned
