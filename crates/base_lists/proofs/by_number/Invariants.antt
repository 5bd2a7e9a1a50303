-- Each turn fills one place with its own number. Assumes nothing.
use Rattle.base_sums.specs.Filled.{Filled}
use Rattle.base_lists.proofs.by_number.Given as goal

abbrev pub invariant-loop-i : goal.invariant-loop-i
invariant-loop-i l = Filled (λ i. i) l.i l.list
