-- `read_book::spans::read_spans` meets its contract: every span passed was got, and its limit stands in the list. Assumes nothing.
use Rattle.read_book.specs.Series.{SoFar}
use Rattle.read_book.specs.Spans.{span_series}
use Rattle.read_book.proofs.spans.read_spans.Given as goal

abbrev pub invariant-loop-s : goal.invariant-loop-s
invariant-loop-s l = SoFar (span_series l.file l.channels) l.limits l.s
