-- `read_record::span_at` meets its contract: each field is where the definition has it. Assumes nothing.
use mathlib.Core.Path.{sym, ◌∙◌}
use borrow.Author.Tests.{lt-ltb, le-ltb}
use Rattle.paper_book.specs.Refusals.{start, records, present, kind_in, mark_in, number_in, limit_in}
use Rattle.read_record.specs.Records.{tests_of_span, span_record_at, answer_first, answer_rest}
use Rattle.read_record.proofs.span_at.Goals as goal

pub returns-then-file-index : goal.returns-then-file-index
unfolding span_record_at tests_of_span present records
returns-then-file-index c = sym (answer_first _ _ _ _ _ (rw (le-ltb _ _ c.if-file-index.true)))

pub returns : goal.returns
unfolding span_record_at tests_of_span kind_in mark_in number_in limit_in start present records
returns c =
    sym
    (answer_rest _ _ _ _ _ (rw (lt-ltb _ _ c.if-file-index.false))
    ∙ simp (c.answer.ensures, c.span-judged.ensures, c.blank-rest.ensures, c.head_at-head.ensures))
