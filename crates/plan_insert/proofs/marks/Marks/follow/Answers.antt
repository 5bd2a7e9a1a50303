use Rattle.std.proofs.Common.{ℕ, ◌-◌, arith}
use Rattle.plan_insert.specs.State.{at, Flagged, EndsAt, ends_of}
use Rattle.plan_insert.specs.Relaxed.{read_cost}
use Rattle.plan_insert.specs.Chains.{begun, followed, link_lacks, link_done}
use Rattle.plan_insert.specs.Lent.{stays}
use Rattle.plan_insert.proofs.marks.Marks.follow.Goals as goal

pub loop-i-init : goal.loop-i-init
loop-i-init c = begun (stays c.args.side) c.chain-chain.ensures c.requires.0

-- the candidate of a turn is one of the side, with its place in the arrays, and its arc starts at u
pub bounds-ground-e : goal.bounds-ground-e
bounds-ground-e c =
    let g = c.args.ground.now in
    let e : ℕ = c.loop-i.i - 1 in
    let here : EndsAt (Flagged (stays c.args.side) g.t g.kept.now) (at (ends_of (stays c.args.side) g.row.now.lo g.row.now.hi)) c.args.u e = c.loop-i.invariant.here e (omega arith) in
    c.chain-chain.ensures.few e here.0

pub offset_bounds-ground-e : goal.offset_bounds-ground-e
offset_bounds-ground-e c =
    let g = c.args.ground.now in
    let e : ℕ = c.loop-i.i - 1 in
    let here : EndsAt (Flagged (stays c.args.side) g.t g.kept.now) (at (ends_of (stays c.args.side) g.row.now.lo g.row.now.hi)) c.args.u e = c.loop-i.invariant.here e (omega arith) in
    omega (arith, c.chain-chain.ensures.few e here.0)

pub try_arc-requires-clause-lacks : goal.try_arc-requires-clause-lacks
try_arc-requires-clause-lacks c =
    let g = c.args.ground.now in
    let e : ℕ = c.loop-i.i - 1 in
    let here : EndsAt (Flagged (stays c.args.side) g.t g.kept.now) (at (ends_of (stays c.args.side) g.row.now.lo g.row.now.hi)) c.args.u e = c.loop-i.invariant.here e (omega arith) in
    rw c.far-far.ensures (read_cost (link_lacks g.ready here.0.0 (stays c.args.side) c.cost_along.ensures here.0.1 here.1))

pub loop-i-preserved : goal.loop-i-preserved
loop-i-preserved c =
    let g = c.args.ground.now in
    let e : ℕ = c.loop-i.i - 1 in
    let here : EndsAt (Flagged (stays c.args.side) g.t g.kept.now) (at (ends_of (stays c.args.side) g.row.now.lo g.row.now.hi)) c.args.u e = c.loop-i.invariant.here e (omega arith) in
    followed (stays c.args.side) c.chain-chain.ensures (omega arith) c.loop-i.invariant
    (link_done g.ready here.0.0 (stays c.args.side) c.cost_along.ensures here.0.1 here.1 (rw c.far-far.ensures at c.try_arc.ensures))
