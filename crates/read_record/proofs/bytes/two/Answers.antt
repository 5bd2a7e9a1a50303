-- `read_record::bytes::two` meets its contract: each of the two bytes is below 256. Assumes nothing.
use Rattle.std.proofs.Common.{arith}
use Rattle.paper_book.specs.Bytes.{two}
use Rattle.read_record.proofs.bytes.two.Goals as goal

pub returns-clause-value : goal.returns-clause-value
unfolding two
returns-clause-value c = omega arith
