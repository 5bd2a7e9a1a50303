-- Each test is its flag. Assumes nothing.
use Rattle.std.proofs.Common.{refl}
use borrow.Author.Tests.{lt-ltb, le-ltb}
use Rattle.paper_book.specs.Refusals.{short_of}
use Rattle.read_record.proofs.shape.Shape.short.Goals as goal

pub returns-then-entry_places-count : goal.returns-then-entry_places-count
unfolding short_of
returns-then-entry_places-count c = rw (lt-ltb _ _ c.if-entry_places-count.true)

pub returns-in-Line : goal.returns-in-Line
unfolding short_of
returns-in-Line c = rw (le-ltb _ _ c.if-entry_places-count.false, c.in-Line.is) refl

pub returns-in-Ring : goal.returns-in-Ring
unfolding short_of
returns-in-Ring c = rw (le-ltb _ _ c.if-entry_places-count.false, c.in-Ring.is) refl
