-- `desk::write::write_numbers` meets its contract: each turn writes one more number. Assumes nothing.
use Rattle.paper_book.specs.Columns.{at}
use Rattle.desk.specs.Promise.{Written}
use Rattle.desk.proofs.write.write_numbers.Given as goal

abbrev pub invariant-loop-i : goal.invariant-loop-i
invariant-loop-i l = Written l.width l.i (at l.numbers) l.initial.out l.out
