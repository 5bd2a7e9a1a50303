-- `check_plan::check_plan` meets its contract: the reader's refusal is the checker's, and of an accepted book `columns` makes columns of the requests, for which
-- the plan is checked. Assumes nothing.
use mathlib.Core.Path.{◌≡◌, ap, ◌∙◌}
use Prim.Native.Nat.{◌≤◌}
use native.Mathlib.Omega.{arith}
use lib.Seq.{length-take-le}
use Rattle.std.proofs.Common.{List, ℕ, length, take}
use Rattle.std.proofs.lemmas.Result.{err_from_is_err_and}
use Rattle.base_columns.specs.declared.Columns.{Columns}
use Rattle.paper_book.specs.Book.{spans, spans_of}
use Rattle.paper_book.specs.Sound.{few_spans}
use Rattle.read_record.specs.declared.Network.{Network}
use Rattle.read_record.specs.declared.Request.{Request}
use Rattle.read_record.specs.Shapes.{code_of}
use Rattle.read_book.specs.Accepted.{refused_read}
use Rattle.read_book.specs.Says.{book_from}
use Rattle.work_columns.specs.declared.RequestColumns.{RequestColumns}
use Rattle.work_columns.specs.Columned.{Columned}
use Rattle.work_columns.specs.Seam.{LentBook, HeldColumns, accepted, held_columns}
use Rattle.check_plan.specs.Checked.{checked_of}
use Rattle.check_plan.specs.WaysOut.{book_refused, book_accepted}
use Rattle.check_plan.proofs.check_plan.Goals as goal

module _ {net : Network} {limits : List ℕ} {requests : List Request} {count : ℕ} (lent : LentBook net limits requests count) where
  -- the book that is lent has up to 64 spans
  most : spans_of (code_of net.shape) net.nodes ≤ 64
  unfolding book_from spans
  most = few_spans lent.sound

  -- the columns that are lent hold it
  held :
      {cols : RequestColumns} {c : Columns} {n : ℕ} → Columned requests count cols → n ≡ spans_of (code_of net.shape) net.nodes → length limits ≡ 64
      → c.limits.now ≡ take n limits → (c.a.now ≡ take count cols.a) × (c.b.now ≡ take count cols.b) → c.profit.now ≡ take count cols.profit
      → HeldColumns (book_from net limits count requests) net c
  held made n_is long limits_are =
      held_columns lent made (rw n_is at limits_are) (ap length limits_are ∙ (length-take-le _ limits (omega (arith, n_is, most, long)) ∙ n_is))

pub returns-in_err-taken : goal.returns-in_err-taken
unfolding checked_of
returns-in_err-taken c =
    let p = err_from_is_err_and c.from_residual.result c.from_residual.ensures.1 in
    rw (p.1, p.2) (book_refused _ _ _ (refused_read c.read_book.ensures c.in_err-taken.was))

pub shared_ref_as_front-limits : goal.shared_ref_as_front-limits
shared_ref_as_front-limits c = omega (arith, c.spans_of-spans.ensures, most (accepted c.read_book.ensures c.in_ok-taken.was).0)

pub check-requires : goal.check-requires
check-requires c =
    let lent = (accepted c.read_book.ensures c.in_ok-taken.was).0 in
    let e = c.lend-columns.ensures in
    (_, held lent c.columns-cols.ensures c.spans_of-spans.ensures (omega arith) e.limits e.ends e.profit)

pub returns : goal.returns
returns c =
    let taken = accepted c.read_book.ensures c.in_ok-taken.was in
    let e = c.lend-columns.ensures in
    book_accepted _ _ _ taken.1 (c.check.ensures _ (held taken.0 c.columns-cols.ensures c.spans_of-spans.ensures (omega arith) e.limits e.ends e.profit))
