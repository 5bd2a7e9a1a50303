-- `check_plan::places::price_list` meets its contract: each turn puts one price in its place. Assumes nothing.
use Rattle.base_sums.specs.Filled.{Filled}
use Rattle.paper_book.specs.Bytes.{price_in}
use Rattle.check_plan.proofs.places.price_list.Given as goal

abbrev pub invariant-loop-s : goal.invariant-loop-s
invariant-loop-s l = Filled (price_in l.prices) l.s l.price-items
