-- `check_rules::lawful` meets its contract: an entry of a wrong form breaks the rules, and with none the spans decide, by their limits and then by the
-- channels. Assumes nothing.
use native.Mathlib.Omega.{arith}
use Rattle.check_rules.specs.Spans.{limits_decide, channels_decide}
use Rattle.check_rules.specs.Lawful.{can_sweep, entries_break, spans_obey}
use Rattle.check_rules.proofs.lawful.Goals as goal

pub returns-then-not-lay : goal.returns-then-not-lay
returns-then-not-lay c book drawn k = entries_break _ drawn k c.lay.ensures.formed c.if-not-lay.true

pub channels_apart-requires : goal.channels_apart-requires
channels_apart-requires c =
    (omega arith, can_sweep c.requires.numbers_below.0 c.requires.numbers_below.1 (c.lay.ensures.laid c.if-not-lay.false))

pub returns-then-within_limits : goal.returns-then-within_limits
returns-then-within_limits c book drawn k =
    let formed = c.if-not-lay.false in
    spans_obey _ drawn k c.lay.ensures.formed formed (c.lay.ensures.laid formed)
    (channels_decide c.within_limits.ensures c.if-within_limits.true c.channels_apart.ensures)

pub returns-else-within_limits : goal.returns-else-within_limits
returns-else-within_limits c book drawn k =
    let formed = c.if-not-lay.false in
    rw c.if-within_limits.false
    (spans_obey _ drawn k c.lay.ensures.formed formed (c.lay.ensures.laid formed) (limits_decide c.within_limits.ensures c.if-within_limits.false))
