use Rattle.std.proofs.Common.{arith}
use Rattle.plan_insert.specs.SearchLoop.{look, look_can, none_taken, taken_found, taken_on}
use Rattle.plan_insert.specs.OpenList.{listed_upto}
use Rattle.plan_insert.proofs.search.Search.find.Goals as goal

pub loop-u-init : goal.loop-u-init
loop-u-init c =
    let q = c.requires in
    look c.start.new.self.marks.list c.args.ground.now.ready.cells_upto q.0 q.1 q.2 (omega arith) (omega arith) c.start.ensures

pub take-requires : goal.take-requires
take-requires c = record { upto = listed_upto c.loop-u.invariant.listed; choice = λ some. look_can c.loop-u.invariant (λ q. omega arith) }

pub returns-then-u-a : goal.returns-then-u-a
returns-then-u-a c =
    let g = c.args.ground.now in
    taken_found c.loop-u.invariant c.in-Some.ensures g.ready.deep g.ready.proper c.if-u-a.true

pub loop-u-preserved : goal.loop-u-preserved
loop-u-preserved c = taken_on c.loop-u.invariant c.in-Some.ensures c.if-u-a.false c.spread.ensures

pub loop-u-smaller : goal.loop-u-smaller
loop-u-smaller c = let l = loop-u-preserved c in omega arith

pub returns : goal.returns
returns c =
    let g = c.args.ground.now in
    none_taken c.loop-u.invariant c.in_default.ensures g.ready.deep g.ready.proper c.requires.0
