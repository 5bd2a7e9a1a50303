-- `check_rules::entry_at` meets its contract: entry i stands in the two bytes from 2 i on. Assumes nothing.
use Rattle.paper_book.specs.Bytes.{entry_in}
use Rattle.check_rules.proofs.entry_at.Goals as goal

pub returns : goal.returns
unfolding entry_in
returns c = c.two.ensures.value
