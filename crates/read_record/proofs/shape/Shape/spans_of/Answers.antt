-- A ring has a span for each node, a line one less. Assumes nothing.
use Rattle.std.proofs.Common.{refl}
use Rattle.paper_book.specs.Book.{spans_of}
use Rattle.read_record.proofs.shape.Shape.spans_of.Goals as goal

pub returns-in-Line : goal.returns-in-Line
unfolding spans_of
returns-in-Line c = rw c.in-Line.is c.saturating_sub.ensures

pub returns-in-Ring : goal.returns-in-Ring
unfolding spans_of
returns-in-Ring c = rw c.in-Ring.is refl
