-- `plan_ring::cut_ceiling` meets its contract: the turned columns and prices are those of the line which the cut leaves, and no line earns more than a
-- ceiling. Assumes nothing.
use Rattle.std.proofs.Common.{refl}
use Rattle.plan_ring.specs.Turned.{can_turn}
use Rattle.plan_ring.specs.Known.{lent_priced, lent_bounded}
use Rattle.plan_ring.proofs.cut_ceiling.Goals as goal

pub turn_columns-requires : goal.turn_columns-requires
turn_columns-requires c = let t = can_turn c.requires.ring_columns _ c.requires.j_in_ring in (t.0, rw c.args.ring.now.b_even t.1)

pub ceiling_of-requires : goal.ceiling_of-requires
ceiling_of-requires c =
    let p = c.requires in
    lent_priced p.ring_columns _ p.j_in_ring (c.along-line.ensures c.args.ring.now _ refl refl c.turn_columns.ensures) c.turn_limits.ensures c.args.known.now.low

pub returns : goal.returns
returns c w =
    let p = c.requires in
    lent_bounded w _ p.j_in_ring (c.along-line.ensures c.args.ring.now _ refl refl c.turn_columns.ensures) c.turn_limits.ensures c.args.known.now.low c.ceiling_of.ensures
