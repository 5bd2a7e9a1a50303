-- What is read is a shape's number, and what is not is none's. Assumes nothing.
use Rattle.std.proofs.Common.{◌∙◌}
use Rattle.read_record.specs.Shapes.{decoded}
use Rattle.read_record.proofs.shapes.known.Goals as goal

pub returns : goal.returns
returns c = c.is_ok.ensures.value ∙ decoded _ _ c.try_from.ensures
