-- The laid candidates and the limits are a row that can be planned, in any order; what the planner leaves of the arranged row it leaves, by number, of
-- the row as laid. Assumes nothing.
use Rattle.std.proofs.Common.{◌≡◌, length, take, ℕ, arith, length-take-le}
use Rattle.plan_row.specs.Reordered.{order_first, can_arranged, reordered}
use Rattle.plan_row.specs.Solving.{can_plan}
use Rattle.plan_row.proofs.solve.Goals as goal

pub plan_row-planned-requires : goal.plan_row-planned-requires
plan_row-planned-requires c =
    let count : ℕ = length c.args.columns.now.a.now in
    let laid : length (take count c.lay.new.row.lo) ≡ count = omega arith in
    let o = order_first (rw laid at c.ordered.ensures) in
    let arranged = rw (length-take-le count c.ordered.new.order (omega arith)) at c.arrange.ensures.arranged in
    let can = can_plan c.requires c.lay.ensures.candidates c.copy.ensures in
    rw (c.arrange.ensures.cells, c.lay.ensures.cells) (can_arranged o arranged can)

pub returns : goal.returns
returns c =
    let count : ℕ = length c.args.columns.now.a.now in
    let laid : length (take count c.lay.new.row.lo) ≡ count = omega arith in
    let o = order_first (rw laid at c.ordered.ensures) in
    let arranged = rw (length-take-le count c.ordered.new.order (omega arith)) at c.arrange.ensures.arranged in
    let back = rw (length-take-le count c.ordered.new.place (omega arith)) at c.put_back.ensures in
    let stands = rw (c.arrange.ensures.cells, c.lay.ensures.cells) at c.plan_row-planned.ensures in
    record {
      cost = _;
      candidates = c.lay.ensures.candidates;
      free = _;
      free_is = c.copy.ensures;
      room = _;
      standing = reordered o arranged back stands;
    }
