-- `read_record::judge::span` meets its contract: its tests are those of the definition, in turn, so each return is found by passing the tests before
-- it. Assumes nothing.
use Rattle.read_record.specs.Judged.{tests}
use Rattle.read_record.proofs.judge.span.Goals as goal

pub returns-then-kind-ne2 : goal.returns-then-kind-ne2
returns-then-kind-ne2 c = search tests depth 14

pub returns-then-span-due : goal.returns-then-span-due
returns-then-span-due c = search tests depth 14

pub returns-then-not-rest : goal.returns-then-not-rest
returns-then-not-rest c = search tests depth 14

pub returns-then-mark-ne1 : goal.returns-then-mark-ne1
returns-then-mark-ne1 c = search tests depth 14

pub returns-then-channels-span : goal.returns-then-channels-span
returns-then-channels-span c = search tests depth 14

pub returns : goal.returns
returns c = search tests depth 14
