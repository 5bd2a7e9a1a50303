-- `read_runs::parts` meets its contract: each check is what the definitions come to. Assumes nothing.
use mathlib.Core.Path.{◌∙◌}
use Rattle.read_runs.specs.Changes.{right}
use Rattle.read_runs.proofs.parts.Goals as goal

pub expect-requires : goal.expect-requires
expect-requires c = c.accepted.ensures ∙ right.whole

pub expect-requires-2 : goal.expect-requires-2
expect-requires-2 c = c.accepted-2.ensures ∙ right.without_request

pub expect-requires-3 : goal.expect-requires-3
expect-requires-3 c = c.refused.ensures ∙ right.without_span

pub expect-requires-4 : goal.expect-requires-4
expect-requires-4 c = c.refused-2.ensures ∙ right.half_a_record

pub expect-requires-5 : goal.expect-requires-5
expect-requires-5 c = c.refused-3.ensures ∙ right.empty
