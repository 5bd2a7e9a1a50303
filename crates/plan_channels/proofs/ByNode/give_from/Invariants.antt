-- `plan_channels::ByNode::give_from` meets its contract. It is the turn of number i at node v (`Stage` of specs/Stages), the next in the node's list: it gets the lowest
-- free channel, of which one is always left, and those up to the next one are passed over. Numbers rise along the list. Whatever `lo` and `kept` the lists were made
-- of, so it is. Assumes nothing.
use mathlib.Core.Bool.{Bool, true}
use mathlib.Core.Path.{◌≡◌}
use Prim.Native.Nat.{ℕ, ◌-◌, ◌≤◌, ◌<◌}
use Rattle.std.proofs.Common.{List, length}
use Rattle.plan_channels.specs.HandOut.{at, flag}
use Rattle.plan_channels.specs.Lists.{ListedByNode}
use Rattle.plan_channels.specs.Stages.{Stage}
use Rattle.plan_channels.proofs.ByNode.give_from.Given as goal

abbrev pub invariant-loop-i : goal.invariant-loop-i
invariant-loop-i l =
    (cells : ℕ) (lo : List ℕ) (kept : List Bool) → ListedByNode (length l.hi) 0 lo kept l.self.first l.self.after → Stage cells (length l.hi) l.k lo l.hi kept l.initial.channel l.initial.ends l.v 0
    → (l.i ≤ 256) × (l.i < length l.hi → (flag kept l.i ≡ true) × (at lo l.i ≡ l.v)) × Stage cells (length l.hi) l.k lo l.hi kept l.channel l.ends l.v l.i

abbrev pub decreases-loop-i : goal.decreases-loop-i
decreases-loop-i l = length l.hi - l.i
