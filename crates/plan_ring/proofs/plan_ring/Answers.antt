-- `plan_ring::plan_ring` meets its contract: the cut is the one that `best_cut` chose, and the line planner's promise is that of its line. Assumes nothing.
use Rattle.std.proofs.Common.{refl}
use Rattle.plan_ring.specs.Turned.{chosen_in, can_turn, lent_plannable, cut_planned}
use Rattle.plan_ring.proofs.plan_ring.Goals as goal

pub turn_columns-requires : goal.turn_columns-requires
turn_columns-requires c =
    let p = c.requires.columns in
    let t = can_turn p _ (chosen_in p (c.best_cut-cut.ensures p)) in
    (t.0, rw c.args.ring.now.b_even t.1)

pub plan_line-requires : goal.plan_line-requires
plan_line-requires c =
    let p = c.requires.columns in
    lent_plannable p _ (chosen_in p (c.best_cut-cut.ensures p)) (c.along-line.ensures c.args.ring.now _ refl refl c.turn_columns.ensures) c.requires.channels_is

-- refusal 15 is never the line planner's answer
pub returns-in_err-plan : goal.returns-in_err-plan
returns-in_err-plan c w =
    let chosen = chosen_in w.columns (c.best_cut-cut.ensures w.columns) in
    absurd (c.in_err-plan.ensures (lent_plannable w.columns _ chosen (c.along-line.ensures c.args.ring.now _ refl refl c.turn_columns.ensures) w.channels_is))

pub returns : goal.returns
returns c w =
    let chosen = c.best_cut-cut.ensures w.columns in
    let line = c.along-line.ensures c.args.ring.now _ refl refl c.turn_columns.ensures in
    cut_planned w.columns _ (chosen_in w.columns chosen) line.turned w.channels_is (rw (line.spans_is, line.count_is, line.profit_is) at c.in_ok-plan.ensures) chosen
