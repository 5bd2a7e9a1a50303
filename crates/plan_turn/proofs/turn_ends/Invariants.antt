-- `plan_turn::turn_ends` meets its contract: the first i ends are turned, and a store turns the next one. Assumes nothing.
use Prim.Native.Nat.{◌+◌}
use Rattle.base_sums.specs.Filled.{Filled}
use Rattle.paper_book.specs.Columns.{at}
use Rattle.paper_rules.specs.Cuts.{steps}
use Rattle.plan_turn.proofs.turn_ends.Given as goal

abbrev pub invariant-loop-i : goal.invariant-loop-i
invariant-loop-i l = Filled (λ k. steps l.n (l.j + 1) (at l.ends k)) l.i l.turned
