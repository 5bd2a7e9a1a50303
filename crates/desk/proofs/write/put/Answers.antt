-- `desk::write::put` meets its contract: the part of the list that is written becomes the last bytes of the number. Assumes nothing.
use Rattle.desk.specs.Writing.{part_put}
use Rattle.desk.proofs.write.put.Goals as goal

pub returns : goal.returns
returns c = part_put c.requires.0 c.requires.1 (rw c.to_be_bytes-bytes.ensures at c.copy_from_slice.ensures.after)
