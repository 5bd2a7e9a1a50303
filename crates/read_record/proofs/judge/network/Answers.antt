-- `read_record::judge::network` meets its contract: its tests are those of the definition, in turn, so each return is found by passing the tests before
-- it. Assumes nothing.
use Rattle.std.proofs.Common.{sym, ◌∙◌, ap, not}
use Rattle.std.proofs.lemmas.Result.{err_from_is_err_and}
use Rattle.paper_book.specs.Refusals.{fewest}
use Rattle.read_record.specs.Shapes.{known_code, shape_is}
use Rattle.read_record.specs.Judged.{tests, network_is}
use Rattle.read_record.proofs.judge.network.Goals as goal

pub returns-then-kind-ne1 : goal.returns-then-kind-ne1
returns-then-kind-ne1 c = sym (search tests depth 18)

pub returns-in_err-shape : goal.returns-in_err-shape
returns-in_err-shape c =
    let p = err_from_is_err_and c.from_residual.result c.from_residual.ensures.1 in
    let k = ap not c.in_err-shape.ensures.1 in
    rw (p.1, p.2, c.in_err-shape.ensures.0) (sym (search (tests, k) depth 18))

pub returns-then-not-rest : goal.returns-then-not-rest
returns-then-not-rest c = let k = ap not (known_code c.in_ok-shape.shape c.args.shape c.in_ok-shape.ensures) in sym (search (tests, k) depth 18)

pub returns-then-nodes-fewest : goal.returns-then-nodes-fewest
returns-then-nodes-fewest c = let k = ap not (known_code c.in_ok-shape.shape c.args.shape c.in_ok-shape.ensures) in let m = c.fewest.ensures ∙ ap fewest c.in_ok-shape.ensures in sym (search (tests, k, m) depth 18)

pub returns-then-nodes-gt64 : goal.returns-then-nodes-gt64
returns-then-nodes-gt64 c = let k = ap not (known_code c.in_ok-shape.shape c.args.shape c.in_ok-shape.ensures) in let m = c.fewest.ensures ∙ ap fewest c.in_ok-shape.ensures in sym (search (tests, k, m) depth 18)

pub returns-then-channels-eq0 : goal.returns-then-channels-eq0
returns-then-channels-eq0 c = let k = ap not (known_code c.in_ok-shape.shape c.args.shape c.in_ok-shape.ensures) in let m = c.fewest.ensures ∙ ap fewest c.in_ok-shape.ensures in sym (search (tests, k, m) depth 18)

pub returns-then-channels-gt96 : goal.returns-then-channels-gt96
returns-then-channels-gt96 c = let k = ap not (known_code c.in_ok-shape.shape c.args.shape c.in_ok-shape.ensures) in let m = c.fewest.ensures ∙ ap fewest c.in_ok-shape.ensures in sym (search (tests, k, m) depth 18)

pub returns : goal.returns
returns c = let k = ap not (known_code c.in_ok-shape.shape c.args.shape c.in_ok-shape.ensures) in let m = c.fewest.ensures ∙ ap fewest c.in_ok-shape.ensures in (sym (search (tests, k, m) depth 18), network_is (shape_is _ _ c.in_ok-shape.ensures))
