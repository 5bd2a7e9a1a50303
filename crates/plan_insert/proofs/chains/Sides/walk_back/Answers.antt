use Rattle.plan_insert.specs.Lent.{links_of, Walkable}
use Rattle.plan_insert.specs.WalkBack.{Come, come_last, come_in, come_nearer, can_flip, come_next}
use Rattle.plan_insert.proofs.chains.Sides.walk_back.Goals as goal

pub flip-requires : goal.flip-requires
flip-requires c =
    let l = c.loop-v in
    let here : Come c.requires l.kept l.room (links_of l.self) l.v = l.invariant.come c.requires in
    can_flip _ here c.loop-v-test.true

pub loop-v-smaller : goal.loop-v-smaller
loop-v-smaller c =
    let l = c.loop-v in
    let here : Come c.requires l.kept l.room (links_of l.self) l.v = l.invariant.come c.requires in
    come_nearer _ here c.loop-v-test.true

pub loop-v-preserved : goal.loop-v-preserved
loop-v-preserved c =
    let next = λ (w : Walkable c.args.kept.now c.args.room.now c.args.self.now c.args.found.now c.args.a c.args.b). come_next w (c.loop-v.invariant.come w) c.loop-v-test.true c.flip.ensures in
    record { inside = come_in _ (next c.requires); come = next }

pub returns-clause-balanced : goal.returns-clause-balanced
returns-clause-balanced c w = come_last w (rw c.loop-v-test.false at (c.loop-v.invariant.come w))
