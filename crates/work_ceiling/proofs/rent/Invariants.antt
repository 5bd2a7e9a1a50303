-- `work_ceiling::rent` meets its contract: each turn adds one price and one limit × price, and fills one place. Assumes nothing.
use Rattle.paper_book.specs.Columns.{at}
use Rattle.work_ceiling.specs.Tolls.{Tolling}
use Rattle.work_ceiling.proofs.rent.Given as goal

abbrev pub invariant-loop-s : goal.invariant-loop-s
invariant-loop-s l = Tolling l.s l.limits (at l.prices) l.toll l.sum l.rented
