-- `check_rules::way_of` meets its contract, arm by arm. Assumes nothing.
use borrow.Author.Tests.{lt-ltb, le-ltb}
use Rattle.paper_rules.specs.Ways.{way_from}
use Rattle.check_rules.proofs.way_of.Goals as goal

pub returns-then-a-b : goal.returns-then-a-b
unfolding way_from
returns-then-a-b c = rw (lt-ltb _ _ c.if-a-b.true)

pub returns : goal.returns
unfolding way_from
returns c = rw (le-ltb _ _ c.if-a-b.false)
