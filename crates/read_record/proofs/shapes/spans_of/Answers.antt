-- A number that is no shape's is not a ring's. Assumes nothing.
use Rattle.paper_book.specs.Book.{spans_of}
use Rattle.read_record.specs.Shapes.{not_known}
use Rattle.read_record.proofs.shapes.spans_of.Goals as goal

pub returns-in-Err : goal.returns-in-Err
unfolding spans_of
returns-in-Err c = rw (not_known c.args.shape c.in-Err.ensures.1).1 c.saturating_sub.ensures
