-- `read_record::answer` meets its contract: case by case. Assumes nothing.
use Rattle.read_record.specs.Records.{answer}
use Rattle.read_record.proofs.answer.Goals as goal

pub returns-in-Ok : goal.returns-in-Ok
unfolding answer
returns-in-Ok c = rw c.in-Ok.is

pub returns-in-Err : goal.returns-in-Err
unfolding answer
returns-in-Err c = rw c.in-Err.is
