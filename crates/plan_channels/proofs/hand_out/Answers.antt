use Rattle.std.proofs.Common.{rules, ◌≡◌, ℕ, length, ◌∙◌, ap, arith, replicate, length-append, length-drop, length-take-le}
use Rattle.plan_channels.specs.Lists.{can_list}
use Rattle.plan_channels.specs.Stages.{cleared, stage_start, stage_end}
use Rattle.plan_channels.proofs.hand_out.Goals as goal

pub of-lists-requires-clause-numbers_below : goal.of-lists-requires-clause-numbers_below
of-lists-requires-clause-numbers_below c = can_list c.requires.can

pub loop-v-init : goal.loop-v-init
loop-v-init c =
    let few = c.requires.can.count_upto in
    let part = c.fill.ensures.len ∙ length-take-le _ _ (omega arith) in
    stage_start c.requires.can
    (length-append c.fill.new.self _ ∙ omega (arith, part, length-drop (length c.args.lo.now) c.args.channel.now))
    (cleared (c.fill.ensures.after (λ y e. e) ∙ ap (λ (n : ℕ). replicate n 0) (length-take-le _ _ (omega arith))) _)

pub returns : goal.returns
returns c =
    let last : c.loop-v.v ≡ c.args.cells = omega arith in
    stage_end (rw last at c.loop-v.invariant)

-- that one finds none left is never the answer
pub returns-in_err-give_from : goal.returns-in_err-give_from
returns-in_err-give_from c =
    let given = c.give_from.ensures c.args.lo.now c.args.kept.now (rw c.requires.even.0 c.of-lists.ensures) in
    let all = given.all in
    search (rules, all)

pub loop-v-preserved : goal.loop-v-preserved
loop-v-preserved c =
    let given = rw c.requires.even.0 at (c.give_from.ensures c.args.lo.now c.args.kept.now) in
    (given c.of-lists.ensures).next c.args.cells c.loop-v.invariant
