-- `desk::melyonva_check` meets its contract: each answer of the checker is packed as it means. Assumes nothing.
use Rattle.desk.specs.Checking.{packed_yes, packed_no, refused_small, packed_refused}
use Rattle.desk.proofs.melyonva_check.Goals as goal

pub refusal-requires : goal.refusal-requires
refusal-requires c = refused_small _ _ _ c.check_plan.ensures c.in-Err.is

pub returns-in-Ok-Yes : goal.returns-in-Ok-Yes
returns-in-Ok-Yes c = packed_yes _ _ _ c.check_plan.ensures (rw c.in-Ok-Yes.field-0-is at c.in-Ok-Yes.is)

pub returns-in-Ok-No : goal.returns-in-Ok-No
returns-in-Ok-No c = packed_no _ _ _ c.check_plan.ensures (rw c.in-Ok-No.field-0-is at c.in-Ok-No.is)

pub returns-in-Err : goal.returns-in-Err
returns-in-Err c = packed_refused _ _ _ c.check_plan.ensures c.in-Err.is c.refusal.ensures
