use lib.ListN.{replicate}
use native.Mathlib.Omega.{arith}
use Rattle.base_sums.specs.Vacant.{vacant_new}
use Rattle.read_book.specs.Series.{so_far_none, stopped_here, else_refused}
use Rattle.read_book.specs.Spans.{got_span, span_more}
use Rattle.read_book.proofs.spans.read_spans.Goals as goal

pub loop-s-init : goal.loop-s-init
loop-s-init c = so_far_none _ (replicate 64 _) (vacant_new 0 0 64)

pub unwrap_err-requires : goal.unwrap_err-requires
unwrap_err-requires c = else_refused c.in_default.not-Ok

pub returns-in_default : goal.returns-in_default
returns-in_default c = stopped_here _ _ _ c.loop-s.s _ _ c.loop-s.invariant (omega arith) c.through_view-reading.ensures c.unwrap_err.ensures

-- a span is got where one is due
pub unreachable-requires : goal.unreachable-requires
unreachable-requires c = c.in_default-got.not-Span _ (got_span _ _ c.loop-s.s _ _ c.through_view-reading.ensures c.in-Ok.is)

pub loop-s-preserved : goal.loop-s-preserved
loop-s-preserved c = span_more _ _ _ _ _ c.through_view-reading.ensures c.in-Ok.is _ _ c.loop-s.invariant (omega arith) c.in-Span.is
