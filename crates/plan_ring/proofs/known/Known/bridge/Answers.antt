-- `plan_ring::known::bridge` meets its contract: both neighbours are spans of the ring, and the higher of two prices that are not too high is not too high.
-- Assumes nothing.
use Prim.Native.Nat.{◌-◌}
use native.Mathlib.Omega.{arith}
use Rattle.law_ring.specs.Turn.{span_below}
use Rattle.plan_ring.proofs.known.Known.bridge.Goals as goal

pub offset_bounds-self-span_at : goal.offset_bounds-self-span_at
offset_bounds-self-span_at c = omega (arith, c.span_at.ensures, span_below c.args.nodes c.args.j c.requires.0 0 (omega arith))

pub bounds-self-span_at : goal.bounds-self-span_at
bounds-self-span_at c = omega (arith, c.span_at.ensures, span_below c.args.nodes c.args.j c.requires.0 0 (omega arith))

pub offset_bounds-self-span_at-2 : goal.offset_bounds-self-span_at-2
offset_bounds-self-span_at-2 c = omega (arith, c.span_at-2.ensures, span_below c.args.nodes c.args.j c.requires.0 (c.args.nodes - 2) (omega arith))

pub bounds-self-span_at-2 : goal.bounds-self-span_at-2
bounds-self-span_at-2 c = omega (arith, c.span_at-2.ensures, span_below c.args.nodes c.args.j c.requires.0 (c.args.nodes - 2) (omega arith))
