-- `plan_book::plan_book` meets its contract: the reader refuses the file, its lists are short, or its book is planned. Assumes nothing.
use Rattle.std.proofs.Common.{sym, refl, ◌∙◌, arith}
use Rattle.std.proofs.lemmas.Result.{err_from_is_err_and}
use Rattle.plan_book.specs.Promise.{planned_of}
use Rattle.plan_book.specs.Held.{plan_of, refused_by, planned_by, unread, too_few, enough, few_spans, lent_columns, own_columns}
use Rattle.plan_book.proofs.plan_book.Goals as goal

pub returns-in_err-taken : goal.returns-in_err-taken
returns-in_err-taken c =
    let p = err_from_is_err_and c.from_residual.result c.from_residual.ensures.1 in
    rw (p.1, p.2) (unread _ _ c.read_book.ensures c.in_err-taken.was)

pub returns-then-short : goal.returns-then-short
unfolding planned_of
returns-then-short c = refused_by (too_few _ _ c.read_book.ensures c.in_ok-taken.was c.spans_of-spans.ensures (sym c.if-short.true ∙ c.short.ensures)) refl

pub shared_ref_as_front-lend : goal.shared_ref_as_front-lend
shared_ref_as_front-lend c = omega (arith, c.spans_of-spans.ensures, few_spans 0 0 c.read_book.ensures c.in_ok-taken.was)

pub find-requires : goal.find-requires
find-requires c = (
  _,
  lent_columns 0 0 c.read_book.ensures c.in_ok-taken.was c.spans_of-spans.ensures c.columns-cols.ensures c.lend-columns.ensures.limits c.lend-columns.ensures.ends c.lend-columns.ensures.profit,
)

pub returns-in-Ok : goal.returns-in-Ok
returns-in-Ok c =
    let held = lent_columns 0 0 c.read_book.ensures c.in_ok-taken.was c.spans_of-spans.ensures c.columns-cols.ensures c.lend-columns.ensures.limits c.lend-columns.ensures.ends c.lend-columns.ensures.profit in
    planned_by
    (enough _ _ c.read_book.ensures c.in_ok-taken.was c.spans_of-spans.ensures (sym c.if-short.false ∙ c.short.ensures))
    (rw c.assembled.ensures (plan_of held c.columns-cols.ensures (own_columns 0 0 c.read_book.ensures c.in_ok-taken.was c.columns-cols.ensures) c.spans_of-spans.ensures (c.in-Ok.ensures _ held)))

-- refusal 15 never comes
pub returns-in-Err : goal.returns-in-Err
returns-in-Err c =
    absurd
    (c.in-Err.ensures _
    (lent_columns 0 0 c.read_book.ensures c.in_ok-taken.was c.spans_of-spans.ensures c.columns-cols.ensures c.lend-columns.ensures.limits c.lend-columns.ensures.ends c.lend-columns.ensures.profit))
