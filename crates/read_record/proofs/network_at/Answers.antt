-- `read_record::network_at` meets its contract: a right byte count is that of one record or more, and each field is where the definition
-- has it. Assumes nothing.
use mathlib.Core.Path.{sym, ◌∙◌}
use Prim.Native.Nat.{◌≤◌}
use native.Mathlib.Omega.{arith}
use lib.ListN.{length}
use Rattle.read_record.specs.Judged.{one_record}
use Rattle.read_record.specs.Records.{tests_of_network, network_record_at, answer_first, network_got, network_not_got}
use Rattle.read_record.proofs.network_at.Goals as goal

pub returns-then-count_wrong : goal.returns-then-count_wrong
unfolding network_record_at tests_of_network
returns-then-count_wrong c = sym (answer_first _ _ _ 0 _ (sym c.count_wrong.ensures ∙ c.if-count_wrong.true))

pub head_at-head-requires : goal.head_at-head-requires
head_at-head-requires c =
    let long : 16 ≤ length c.args.file.now = one_record _ (sym c.count_wrong.ensures ∙ c.if-count_wrong.false) in
    omega (arith, long)

pub blank-rest-requires : goal.blank-rest-requires
blank-rest-requires c =
    let long : 16 ≤ length c.args.file.now = one_record _ (sym c.count_wrong.ensures ∙ c.if-count_wrong.false) in
    omega (arith, long)

pub returns-in-Ok : goal.returns-in-Ok
returns-in-Ok c = network_got _ _ _ (sym c.count_wrong.ensures ∙ c.if-count_wrong.false) c.head_at-head.ensures c.blank-rest.ensures _ c.in-Ok.ensures

pub returns-in-Err : goal.returns-in-Err
returns-in-Err c = network_not_got _ _ _ (sym c.count_wrong.ensures ∙ c.if-count_wrong.false) c.head_at-head.ensures c.blank-rest.ensures _ c.in-Err.ensures
