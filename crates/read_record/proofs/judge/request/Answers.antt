-- `read_record::judge::request` meets its contract: its tests are those of the definition, in turn, so each return is found by passing the tests before
-- it. Assumes nothing.
use Rattle.read_record.specs.Judged.{tests}
use Rattle.read_record.proofs.judge.request.Goals as goal

pub returns-then-due-gt255 : goal.returns-then-due-gt255
returns-then-due-gt255 c = search tests depth 24

pub returns-then-kind-ne3 : goal.returns-then-kind-ne3
returns-then-kind-ne3 c = search tests depth 24

pub returns-then-mark-ne0 : goal.returns-then-mark-ne0
returns-then-mark-ne0 c = search tests depth 24

pub returns-then-q-due : goal.returns-then-q-due
returns-then-q-due c = search tests depth 24

pub returns-then-not-rest : goal.returns-then-not-rest
returns-then-not-rest c = search tests depth 24

pub returns-then-nodes-q : goal.returns-then-nodes-q
returns-then-nodes-q c = search tests depth 24

pub returns-then-nodes-q-2 : goal.returns-then-nodes-q-2
returns-then-nodes-q-2 c = search tests depth 24

pub returns-then-q : goal.returns-then-q
returns-then-q c = search tests depth 24

pub returns-then-q-eq0 : goal.returns-then-q-eq0
returns-then-q-eq0 c = search tests depth 24

pub returns-then-q-gt1000000 : goal.returns-then-q-gt1000000
returns-then-q-gt1000000 c = search tests depth 24

pub returns : goal.returns
returns c = search tests depth 24
