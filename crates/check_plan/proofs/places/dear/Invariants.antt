-- `check_plan::places::dear` meets its contract: no span passed is too dear, and the first that is ends the loop. Assumes nothing.
use mathlib.Core.Path.{◌≡◌}
use mathlib.Core.Bool.{false}
use Prim.Native.Nat.{ℕ, ◌<◌}
use lib.Dec.{ltb}
use Rattle.paper_book.specs.Bytes.{price_in}
use Rattle.check_plan.proofs.places.dear.Given as goal

abbrev pub invariant-loop-s : goal.invariant-loop-s
invariant-loop-s l = (k : ℕ) → k < l.s → ltb 1000000 (price_in l.prices k) ≡ false
