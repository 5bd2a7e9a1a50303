-- A number that is no shape's is not a ring's. Assumes nothing.
use Rattle.std.proofs.Common.{refl}
use Rattle.paper_book.specs.Refusals.{fewest}
use Rattle.read_record.specs.Shapes.{not_known}
use Rattle.read_record.proofs.shapes.fewest.Goals as goal

pub returns-in-Err : goal.returns-in-Err
unfolding fewest
returns-in-Err c = rw (not_known c.args.shape c.in-Err.ensures.1).1 refl
