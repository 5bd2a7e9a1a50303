-- `read_record::bytes::four` meets its contract: each of the two halves is below 65,536. Assumes nothing.
use Rattle.paper_book.specs.Bytes.{four}
use native.Mathlib.Omega.{arith}
use Rattle.read_record.proofs.bytes.four.Goals as goal

pub returns : goal.returns
unfolding four
returns c = omega arith
