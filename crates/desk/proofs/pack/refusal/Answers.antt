-- `desk::pack::refusal` meets its contract: number and place are small. Assumes nothing.
use Rattle.desk.specs.Packing.{packed_refusal}
use borrow.Author.Rules.{rules}
use Rattle.desk.proofs.pack.refusal.Goals as goal

pub returns : goal.returns
unfolding packed_refusal
returns c = search rules
