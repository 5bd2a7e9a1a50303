-- Reading a code meets its contract: what is no shape's is unknown. Assumes nothing.
use Rattle.std.proofs.Common.{refl, arith}
use Rattle.read_record.specs.Shapes.{unknown_code}
use Rattle.read_record.proofs.shape.ShapeTryFromUsize.try_from.Goals as goal

pub returns-in_default : goal.returns-in_default
returns-in_default c = (refl, unknown_code _ (λ e. omega arith) (λ e. omega arith))
