-- `read_book::read_book` meets its contract. Each way out is one law: the network refused, a span refused, a request refused, or all requests read in
-- the part that follows the spans. Assumes nothing.
use mathlib.Core.Path.{sym, ◌∙◌}
use Prim.Native.Nat.{◌≤◌}
use native.Mathlib.Omega.{arith}
use Rattle.std.proofs.Common.{List, ℕ}
use Rattle.std.proofs.lemmas.Result.{err_from_is_err_and}
use Rattle.read_record.specs.declared.Network.{Network}
use Rattle.read_book.specs.Series.{else_refused}
use Rattle.read_book.specs.WaysOut.{network_refused, got_network}
use Rattle.read_book.specs.Whole.{Begun, begun, not_read, refused_in_spans, part_starts, refused_in_requests, book_read}
use Rattle.read_book.proofs.read_book.Goals as goal

-- the network was got, and its spans counted: there are up to 64
most : {f : List ℕ} {net : Network} {n : ℕ} → Begun f net n → n ≤ 64
most counted = omega (arith, counted.n_is, counted.head.most)

pub unwrap_err-requires : goal.unwrap_err-requires
unwrap_err-requires c = else_refused c.in_default.not-Ok

pub returns-in_default : goal.returns-in_default
returns-in_default c = not_read _ _ (network_refused _ _ (sym c.through_view-reading.ensures ∙ c.unwrap_err.ensures))

-- a network is got where one is due
pub unreachable-requires : goal.unreachable-requires
unreachable-requires c = c.in_default-got.not-Network _ (got_network _ _ (sym c.through_view-reading.ensures ∙ c.in-Ok.is))

pub read_spans-requires : goal.read_spans-requires
read_spans-requires c = omega (arith, most (begun _ _ _ _ _ c.through_view-reading.ensures c.in-Ok.is c.in-Network.is c.spans_of-spans.ensures))

pub returns-in_err-limits : goal.returns-in_err-limits
returns-in_err-limits c =
    let p = err_from_is_err_and c.from_residual.result c.from_residual.ensures.1 in
    rw (p.1, p.2)
    (not_read _ _ (refused_in_spans _ _ _ (begun _ _ _ _ _ c.through_view-reading.ensures c.in-Ok.is c.in-Network.is c.spans_of-spans.ensures) _ c.read_spans.ensures _ c.in_err-limits.was))

pub overflow_add-before : goal.overflow_add-before
overflow_add-before c = omega (arith, most (begun _ _ _ _ _ c.through_view-reading.ensures c.in-Ok.is c.in-Network.is c.spans_of-spans.ensures))

pub overflow_mul-before : goal.overflow_mul-before
overflow_mul-before c = omega (arith, most (begun _ _ _ _ _ c.through_view-reading.ensures c.in-Ok.is c.in-Network.is c.spans_of-spans.ensures))

-- the spans were got too, so that the part after them starts in the file
pub slice_bounds-read_requests-count : goal.slice_bounds-read_requests-count
slice_bounds-read_requests-count c =
    part_starts _ _ _ (begun _ _ _ _ _ c.through_view-reading.ensures c.in-Ok.is c.in-Network.is c.spans_of-spans.ensures) _ c.read_spans.ensures _ c.in_ok-limits.was

pub slice_bounds-read_requests-start : goal.slice_bounds-read_requests-start
slice_bounds-read_requests-start c =
    part_starts _ _ _ (begun _ _ _ _ _ c.through_view-reading.ensures c.in-Ok.is c.in-Network.is c.spans_of-spans.ensures) _ c.read_spans.ensures _ c.in_ok-limits.was

pub read_requests-requires : goal.read_requests-requires
read_requests-requires c = omega (arith, most (begun _ _ _ _ _ c.through_view-reading.ensures c.in-Ok.is c.in-Network.is c.spans_of-spans.ensures))

pub returns-in_err-orders : goal.returns-in_err-orders
returns-in_err-orders c =
    let p = err_from_is_err_and c.from_residual-in_err-orders.result c.from_residual-in_err-orders.ensures.1 in
    rw (p.1, p.2)
    (not_read _ _
    (refused_in_requests _ _ _ (begun _ _ _ _ _ c.through_view-reading.ensures c.in-Ok.is c.in-Network.is c.spans_of-spans.ensures) _ c.read_spans.ensures _ c.in_ok-limits.was _ c.read_requests.ensures _ c.in_err-orders.was))

pub returns : goal.returns
returns c =
    book_read _ _ _ (begun _ _ _ _ _ c.through_view-reading.ensures c.in-Ok.is c.in-Network.is c.spans_of-spans.ensures) _ c.read_spans.ensures _ c.in_ok-limits.was _ c.read_requests.ensures _ c.in_ok-orders.was
