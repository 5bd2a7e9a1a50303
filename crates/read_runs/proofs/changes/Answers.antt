use mathlib.Core.Path.{◌∙◌}
use Rattle.read_runs.specs.Changes.{right}
use Rattle.read_runs.proofs.changes.Goals as goal

pub bounds-book-k : goal.bounds-book-k
bounds-book-k c = right.inside c.loop-k.k c.loop-k-test.true

pub expect-requires : goal.expect-requires
expect-requires c = c.refused.ensures ∙ right.change c.loop-k.k c.loop-k-test.true
