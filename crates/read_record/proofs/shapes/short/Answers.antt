-- A number that is no shape's is not a line's. Assumes nothing.
use Rattle.std.proofs.Math.Path.{sym}
use Rattle.std.proofs.Math.Bool.{or-false}
use Rattle.paper_book.specs.Refusals.{short_of}
use Rattle.read_record.specs.Shapes.{not_known}
use Rattle.read_record.proofs.shapes.short.Goals as goal

pub returns-in-Err : goal.returns-in-Err
unfolding short_of
returns-in-Err c = rw (not_known c.args.shape c.in-Err.ensures.1).0 (sym (or-false _))
