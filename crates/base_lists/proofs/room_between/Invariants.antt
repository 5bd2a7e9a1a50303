-- The loop's invariant: every place from a up to j has room. Assumes nothing.
use Rattle.base_lists.specs.Room.{RoomTo}
use Rattle.base_lists.proofs.room_between.Given as goal

abbrev pub invariant-loop-j : goal.invariant-loop-j
invariant-loop-j l = RoomTo l.a l.j l.room
