-- The loop's invariant: one of room is taken on every place from a up to j. Assumes nothing.
use mathlib.Core.Path.{◌≡◌}
use lib.ListN.{length}
use Rattle.base_lists.specs.Room.{TakenTo}
use Rattle.base_lists.proofs.take_room.Given as goal

abbrev pub invariant-loop-j : goal.invariant-loop-j
invariant-loop-j l = (length l.room ≡ length l.initial.room) × TakenTo l.a l.b l.j l.initial.room l.room
