use native.Mathlib.Omega.{arith}
use Rattle.law_ring.specs.Turn.{span_below}
use Rattle.plan_turn.proofs.turn_limits.Goals as goal

-- the span at a place of the line is a span of the ring
pub offset_bounds-limits-span_at : goal.offset_bounds-limits-span_at
offset_bounds-limits-span_at c = omega (arith, c.span_at.ensures, span_below c.args.n c.args.j c.requires.0 c.loop-t.t (omega arith))

pub bounds-limits-span_at : goal.bounds-limits-span_at
bounds-limits-span_at c = omega (arith, c.span_at.ensures, span_below c.args.n c.args.j c.requires.0 c.loop-t.t (omega arith))
