-- `check_rules::laid::Laid::apart_from` meets its contract. It is the turn of number i at node v (`Swept` of specs/Sweep), the next in the node's list: it clashes with
-- the latest on its channel, or becomes the latest, and those up to the next one are passed over. Numbers rise along the list. Assumes nothing.
use mathlib.Core.Bool.{true}
use mathlib.Core.Path.{◌≡◌}
use Prim.Native.Nat.{◌-◌, ◌≤◌, ◌<◌}
use Rattle.base_sums.specs.At.{flag}
use Rattle.paper_book.specs.Columns.{at}
use Rattle.check_rules.specs.Sweep.{Swept}
use Rattle.check_rules.proofs.laid.Laid.apart_from.Given as goal

abbrev pub invariant-loop-i : goal.invariant-loop-i
invariant-loop-i l =
    (l.i ≤ 256) × (l.i < l.count → (flag l.self.crossing l.i ≡ true) × (at l.self.lo l.i ≡ l.v)) × Swept l.count l.self.lo l.self.hi l.self.crossing l.self.channel l.ends l.v l.i

abbrev pub decreases-loop-i : goal.decreases-loop-i
decreases-loop-i l = l.count - l.i
