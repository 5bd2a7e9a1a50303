use native.Mathlib.Omega.{arith}
use lib.ListN.{length-set}
use Rattle.base_lists.specs.Room.{taken_none, taken_room, taken_next}
use Rattle.base_lists.proofs.take_room.Goals as goal

pub loop-j-init : goal.loop-j-init
loop-j-init c = (omega arith, taken_none _ _ _)

pub overflow_sub-room : goal.overflow_sub-room
overflow_sub-room c = omega (arith, taken_room c.loop-j.invariant.1 c.loop-j-test.true c.requires.by_index)

pub loop-j-preserved : goal.loop-j-preserved
loop-j-preserved c = (
  simp length-set (omega arith),
  taken_next c.loop-j.invariant.1 c.loop-j-test.true c.requires.by_index,
)
