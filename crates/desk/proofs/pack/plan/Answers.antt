-- `desk::pack::plan` meets its contract: the three parts are small. Assumes nothing.
use Rattle.desk.specs.Packing.{packed_plan}
use borrow.Author.Rules.{rules}
use Rattle.desk.proofs.pack.plan.Goals as goal

pub returns : goal.returns
unfolding packed_plan
returns c = search rules
