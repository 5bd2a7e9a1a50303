-- `read_record::head_at` meets its contract: each field is where the definition has it. Assumes nothing.
use Rattle.read_record.proofs.head_at.Goals as goal

pub returns : goal.returns
returns c =
    simp (c.two-2.ensures.value, c.two.ensures.value, c.byte-2.ensures.value, c.byte.ensures.value)
