-- `plan_ring::cut_earnings` meets its contract: the turned columns hold the line which the cut leaves, and `known::best_earnings` speaks of that line.
-- Assumes nothing.
use Rattle.std.proofs.Common.{refl}
use Rattle.plan_ring.specs.Turned.{can_turn, cut_lent, lent_earned}
use Rattle.plan_ring.proofs.cut_earnings.Goals as goal

pub turn_columns-requires : goal.turn_columns-requires
turn_columns-requires c = let t = can_turn c.requires.ring_columns _ c.requires.j_in_ring in (t.0, rw c.args.ring.now.b_even t.1)

pub best_earnings-requires-clause-line_columns : goal.best_earnings-requires-clause-line_columns
best_earnings-requires-clause-line_columns c = cut_lent c.requires.ring_columns _ c.requires.j_in_ring (c.along-line.ensures c.args.ring.now _ refl refl c.turn_columns.ensures)

pub returns : goal.returns
returns c w = lent_earned w _ c.requires.j_in_ring (c.along-line.ensures c.args.ring.now _ refl refl c.turn_columns.ensures) c.best_earnings.ensures
