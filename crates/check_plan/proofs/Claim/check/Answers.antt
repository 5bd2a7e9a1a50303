-- `check_plan::Claim::check` meets its contract: each way out is one of the checker's, in their order. Assumes nothing.
use mathlib.Core.Path.{refl, sym, ap, ◌∙◌}
use native.Mathlib.Omega.{arith}
use Rattle.paper_book.specs.Reading.{done}
use Rattle.read_record.specs.Shapes.{code_of}
use Rattle.check_plan.specs.Checked.{checked_of}
use Rattle.check_plan.specs.WaysOut.{ring_refused, short_refused}
use Rattle.check_plan.specs.OnTable.{line, short_is, prices_reach, refused_there, can_check, weighed}
use Rattle.check_plan.proofs.Claim.check.Goals as goal

pub returns-in-Ring : goal.returns-in-Ring
unfolding checked_of
returns-in-Ring c book h = ring_refused book _ _ (h.shape_is ∙ ap code_of c.in-Ring.is)

pub returns-then-short : goal.returns-then-short
unfolding checked_of
returns-then-short c book h =
    let straight = c.in_default.not-Ring in
    short_refused (line h straight) _ _ (short_is h straight _ _ c.short.ensures ∙ c.if-short.true)

pub dear-requires : goal.dear-requires
dear-requires c =
    omega (arith, prices_reach c.requires.1 c.in_default.not-Ring c.args.self.now.entries.now c.args.self.now.prices.now c.short.ensures c.if-short.false)

pub returns-in-Some : goal.returns-in-Some
unfolding checked_of
returns-in-Some c book h = refused_there h c.in_default.not-Ring _ _ c.short.ensures c.if-short.false c.in-Some.ensures.1 c.in-Some.ensures.0

pub weigh-requires : goal.weigh-requires
weigh-requires c = can_check c.requires.1 c.in_default.not-Ring _ _ c.short.ensures c.if-short.false refl (omega (arith, c.in_default-dear.ensures))

pub returns-then-weigh : goal.returns-then-weigh
unfolding checked_of
returns-then-weigh c book h =
    sym (ap done c.if-weigh.true)
    ∙ weighed h c.in_default.not-Ring _ _ c.short.ensures c.if-short.false refl (omega (arith, c.in_default-dear.ensures)) c.weigh.ensures

pub returns : goal.returns
unfolding checked_of
returns c book h =
    sym (ap done c.if-weigh.false)
    ∙ weighed h c.in_default.not-Ring _ _ c.short.ensures c.if-short.false refl (omega (arith, c.in_default-dear.ensures)) c.weigh.ensures
