-- `read_record::judge::count_wrong` meets its contract: its tests are those of the definition, in turn. Assumes nothing.
use borrow.Author.Tests.{eq-eqb, ne_eqb}
use Rattle.paper_book.specs.Refusals.{count_wrong}
use Rattle.read_record.proofs.judge.count_wrong.Goals as goal

pub returns-then-bytes-eq0 : goal.returns-then-bytes-eq0
unfolding count_wrong
returns-then-bytes-eq0 c = simp (eq-eqb _ _ c.if-bytes-eq0.true)

pub returns-then-bytes-ne0 : goal.returns-then-bytes-ne0
unfolding count_wrong
returns-then-bytes-ne0 c = simp (ne_eqb _ _ c.if-bytes-eq0.false, ne_eqb _ _ c.if-bytes-ne0.true)

pub returns : goal.returns
unfolding count_wrong
returns c = simp (ne_eqb _ _ c.if-bytes-eq0.false, eq-eqb _ _ c.if-bytes-ne0.false)
