-- `plan_channels::hand_out` meets its contract. With every channel 0 it is the turn of node 0; each node's turn ends in the next one's (`NodeGiven` of specs/Stages),
-- and past the last cell every kept one has its channel. That one finds none left is never the answer. Assumes nothing.
use Rattle.std.proofs.Common.{length}
use Rattle.plan_channels.specs.Stages.{Stage}
use Rattle.plan_channels.proofs.hand_out.Given as goal

abbrev pub invariant-loop-v : goal.invariant-loop-v
invariant-loop-v l = Stage l.cells (length l.lo) l.k l.lo l.hi l.kept l.channel l.ends l.v 0
