-- Each call is asked for what the calls before it ensure, and in the end the promise is theirs together: `Promised` has every step. The channels
-- are never used up, by what `hand_out` ensures. Assumes nothing.
use mathlib.Core.Path.{sym}
use Rattle.std.specs.Prelude.{length}
use native.Mathlib.Omega.{arith}
use lib.Seq.{length-take-le}
use Rattle.std.proofs.lemmas.List.{length-take}
use Rattle.base_sums.specs.Vacant.{vacant_new}
use Rattle.plan_channels.specs.Part.{can_part, handed_whole}
use Rattle.plan_row.specs.Placing.{line_places, line_placed}
use Rattle.plan_line.specs.Promised.{can_solve, can_hand_out, falling, placed_end, planned}
use Rattle.plan_line.proofs.plan_line.Goals as goal

pub solve-requires : goal.solve-requires
solve-requires c = can_solve c.requires.columns

pub hand_out-requires-clause-can : goal.hand_out-requires-clause-can
hand_out-requires-clause-can c = can_part (omega (arith, length-take (length c.args.line.now.a.now) c.solve.new.set.row.lo)) (can_hand_out c.requires.columns c.solve.ensures c.requires.channels_is)

pub by_number-requires : goal.by_number-requires
by_number-requires c = omega (arith, (can_solve c.requires.columns).cells_upto)

pub slice_bounds-prices-end : goal.slice_bounds-prices-end
slice_bounds-prices-end c = omega (arith, (can_solve c.requires.columns).cells_upto)

pub slice_bounds-price-end : goal.slice_bounds-price-end
slice_bounds-price-end c = sym (length-take-le _ _ (omega (arith, (can_solve c.requires.columns).cells_upto)))

pub price-requires : goal.price-requires
price-requires c = record {
  falling = falling c.requires.columns c.solve.ensures;
  places = line_places c.by_number.ensures (length-take-le _ _ (omega (arith, (can_solve c.requires.columns).cells_upto)));
}

pub sum_kept-totals-requires : goal.sum_kept-totals-requires
sum_kept-totals-requires c = rw c.args.line.now.profit_even (can_solve c.requires.columns).profits_in

pub returns : goal.returns
returns c w =
    let few = (can_solve w.columns).cells_upto in
    planned
    w.columns
    c.solve.ensures
    w.channels_is
    (handed_whole (omega (arith, length-take (length c.args.line.now.a.now) c.solve.new.set.row.lo)) c.hand_out.ensures)
    c.enter.ensures.entered
    (line_placed c.by_number.ensures (length-take-le _ _ (omega (arith, few))) c.price.ensures _)
    (c.enter.ensures.vacant (vacant_new 0 _ 256))
    (placed_end c.price.ensures (length-take-le _ _ (omega (arith, few))) (omega (arith, few)))
    (rw c.args.line.now.profit_even at c.sum_kept-totals.ensures.earned)
    (rw c.args.line.now.profit_even at c.sum_kept-totals.ensures.number)
