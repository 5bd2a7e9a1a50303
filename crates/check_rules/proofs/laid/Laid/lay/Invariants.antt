-- `check_rules::laid::Laid::lay` meets its contract: each turn fills one place of each column, if the entry is formed; one that is not ends the loop. Assumes nothing.
use mathlib.Core.Path.{◌≡◌}
use mathlib.Core.Bool.{true}
use Prim.Native.Nat.{ℕ, ◌<◌}
use Rattle.paper_book.specs.Bytes.{entry_in}
use Rattle.check_rules.specs.Entry.{formed_in, LayingPlan}
use Rattle.check_rules.proofs.laid.Laid.lay.Given as goal

abbrev pub invariant-loop-i : goal.invariant-loop-i
invariant-loop-i l =
    ((k : ℕ) → k < l.i → formed_in l.channels l.a l.b l.entries k ≡ true) × LayingPlan l.i l.a l.b (entry_in l.entries) l.self.lo l.self.hi l.self.crossing l.self.channel
