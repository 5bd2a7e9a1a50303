-- A ring has 3 nodes or more. Assumes nothing.
use Rattle.std.proofs.Common.{refl}
use Rattle.paper_book.specs.Refusals.{fewest}
use Rattle.read_record.proofs.shape.Shape.fewest.Goals as goal

pub returns-in-Line : goal.returns-in-Line
unfolding fewest
returns-in-Line c = rw c.in-Line.is refl

pub returns-in-Ring : goal.returns-in-Ring
unfolding fewest
returns-in-Ring c = rw c.in-Ring.is refl
