-- `insert` meets its contract. The calls ask no more than what stands before the insertion, with the candidate's own gain; each of the four
-- ways out is one law of `Inserting`, at the arrays as they are there. Assumes nothing.
use Rattle.std.proofs.Common.{arith, ◌≡◌, ◌+◌, ◌-◌, ◌≤◌, ℕ, ℤ, Bool, List, length, get_or, pos}
use Rattle.base_signed.specs.Bits.{rd, within}
use Rattle.base_signed.specs.Parts.{dn}
use Rattle.plan_insert.specs.State.{at, lowest, Links, CanInsert}
use Rattle.plan_insert.specs.Inserting.{gain_in, first_inside, inside, ready, gain_read, gain_upto, kept_at_once, dropped_unasked, dropped_after, walkable, kept_by_walk, chains_walked}
use Rattle.plan_insert.proofs.insert.Planner.insert.Goals as goal

-- what the candidate gains, in depths: the numbers that it is made of fit
gain_is :
    {cells t : ℕ} {lo hi : List ℕ} {cost : List ℤ} {kept : List Bool} {room : List ℕ} {dist : List ℤ} {ls : Links} (w : CanInsert cells t lo hi cost kept room dist ls) →
    {gain : ℕ} → gain ≡ dn (rd (get_or dist (at lo t) (pos 0))) + dn (rd (get_or cost t (pos 0))) - dn (rd (get_or dist (at hi t) (pos 0))) → gain ≡ gain_in t lo hi cost dist
gain_is {cells} {t} {lo} {hi} w is =
    let d = (ready w).dists in
    gain_read w
    (within _ 1000000 (omega arith) (omega (arith, w.costs.not_above t (omega arith), w.costs.upto t (omega arith))))
    (within _ lowest (omega arith) (omega (arith, d.not_above (at lo t) (omega (arith, first_inside w)), d.upto (at lo t) (omega (arith, first_inside w)))))
    (within _ lowest (omega arith) (omega (arith, d.not_above (at hi t) (omega (arith, inside w)), d.upto (at hi t) (omega (arith, inside w)))))
    is

-- ---- it gains nothing: dropped

pub returns-then-gain-eq0-clause-standing : goal.returns-then-gain-eq0-clause-standing
returns-then-gain-eq0-clause-standing c w =
    let long : length c.args.planned.now.kept ≡ 256 = omega arith in
    let is = gain_is c.requires c.gain_of-gain.ensures in
    let e = c.enter.ensures in
    rw e.kept_after (dropped_unasked w long (omega (arith, is, c.if-gain-eq0.true)))

-- ---- every cell has room: kept at once

pub returns-then-room_between-clause-standing : goal.returns-then-room_between-clause-standing
returns-then-room_between-clause-standing c w =
    let long : length c.args.planned.now.kept ≡ 256 = omega arith in
    let e = c.enter-then-room_between.ensures in
    rw e.kept_after (kept_at_once w long (c.room_between.ensures c.if-room_between.true) c.take_room.ensures)

-- ---- a way back is found: kept, and the way is walked

pub find-requires : goal.find-requires
find-requires c =
    let is = gain_is c.requires c.gain_of-gain.ensures in
    let small : c.gain_of-gain.result ≤ 1000000 = omega (arith, is, gain_upto c.requires) in
    (first_inside c.requires, inside c.requires, omega (arith, c.if-gain-eq0.false), small)

pub deepen-requires-clause-cells_bound : goal.deepen-requires-clause-cells_bound
deepen-requires-clause-cells_bound c =
    let is = gain_is c.requires c.gain_of-gain.ensures in
    let small : c.gain_of-gain.result ≤ 1000000 = omega (arith, is, gain_upto c.requires) in
    (c.requires.cells_upto, omega (arith, (c.find.ensures.reached c.if-find.true).shorter, small))

pub walk_back-requires : goal.walk_back-requires
walk_back-requires c =
    let long : length c.args.planned.now.kept ≡ 256 = omega arith in
    let is = gain_is c.requires c.gain_of-gain.ensures in
    let e = c.enter-then-find.ensures in
    walkable c.requires long is c.if-gain-eq0.false c.find.ensures c.if-find.true e.kept_after e.chained

pub returns-then-find-clause-standing : goal.returns-then-find-clause-standing
returns-then-find-clause-standing c w =
    let long : length c.args.planned.now.kept ≡ 256 = omega arith in
    let is = gain_is c.requires c.gain_of-gain.ensures in
    let e = c.enter-then-find.ensures in
    kept_by_walk w long is c.if-gain-eq0.false c.find.ensures c.if-find.true e.kept_after e.chained c.deepen.ensures c.walk_back.ensures.balanced

pub returns-then-find-clause-chains : goal.returns-then-find-clause-chains
returns-then-find-clause-chains c =
    let long : length c.args.planned.now.kept ≡ 256 = omega arith in
    let is = gain_is c.requires c.gain_of-gain.ensures in
    let e = c.enter-then-find.ensures in
    chains_walked c.requires long is c.if-gain-eq0.false c.find.ensures c.if-find.true e.kept_after e.chained c.walk_back.ensures.chains

-- ---- no way back is short enough: dropped

pub deepen-requires-2-clause-cells_bound : goal.deepen-requires-2-clause-cells_bound
deepen-requires-2-clause-cells_bound c =
    let is = gain_is c.requires c.gain_of-gain.ensures in
    let small : c.gain_of-gain.result ≤ 1000000 = omega (arith, is, gain_upto c.requires) in
    (c.requires.cells_upto, omega (arith, small))

pub returns-clause-standing : goal.returns-clause-standing
returns-clause-standing c w =
    let long : length c.args.planned.now.kept ≡ 256 = omega arith in
    let is = gain_is c.requires c.gain_of-gain.ensures in
    let e = c.enter-2.ensures in
    rw e.kept_after (dropped_after w long is c.if-gain-eq0.false c.find.ensures c.if-find.false c.deepen-2.ensures)
