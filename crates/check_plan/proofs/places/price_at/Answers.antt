-- `check_plan::places::price_at` meets its contract: the price of span s stands in the four bytes from 4 s on. Assumes nothing.
use Rattle.paper_book.specs.Bytes.{price_in}
use Rattle.check_plan.proofs.places.price_at.Goals as goal

pub returns : goal.returns
unfolding price_in
returns c = c.four.ensures
