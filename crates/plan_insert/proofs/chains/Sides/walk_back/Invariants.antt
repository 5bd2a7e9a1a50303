-- The loop's invariant: v is a place of the arrays, and whatever walk there is from a to b, it has come to v. Each turn is a step of `WalkBack`, and the
-- measure is the rank of v, which falls. Assumes nothing.
use Prim.Native.Nat.{◌<◌}
use Rattle.plan_insert.specs.State.{at}
use Rattle.plan_insert.specs.Lent.{links_of, Walkable}
use Rattle.plan_insert.specs.WalkBack.{Come}
use Rattle.plan_insert.proofs.chains.Sides.walk_back.Given as goal

abbrev pub invariant-loop-v : goal.invariant-loop-v
invariant-loop-v l = record {
  inside : l.v < 128;
  come : (w : Walkable l.initial.kept l.initial.room l.initial.self l.found l.a l.b) → Come w l.kept l.room (links_of l.self) l.v;
}

abbrev pub decreases-loop-v : goal.decreases-loop-v
decreases-loop-v l = at l.found.rank l.v
