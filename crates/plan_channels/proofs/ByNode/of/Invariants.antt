-- `plan_channels::ByNode::of` meets its contract. The numbers from e on are in the lists (`ListedByNode` of specs/Lists): one that is not kept is passed over, any other
-- comes in front of its node's list. Assumes nothing.
use Rattle.std.proofs.Common.{length}
use Rattle.plan_channels.specs.Lists.{ListedByNode}
use Rattle.plan_channels.proofs.ByNode.of.Given as goal

abbrev pub invariant-loop-e : goal.invariant-loop-e
invariant-loop-e l = ListedByNode (length l.lo) l.e l.lo l.kept l.lists.first l.lists.after
