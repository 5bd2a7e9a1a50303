-- `read_runs::refused` meets its contract: the reader's answer is the reading's, and the two numbers are compared in turn. Assumes nothing.
use borrow.Author.Tests.{eq-eqb, ne_eqb}
use Rattle.read_book.specs.Accepted.{accepted_read, refused_read}
use Rattle.read_runs.specs.Told.{is_refused}
use Rattle.read_runs.proofs.refused.Goals as goal

pub returns-in-Ok : goal.returns-in-Ok
unfolding is_refused
returns-in-Ok c = rw (accepted_read c.read_book.ensures c.in-Ok.is)

pub returns-then-number : goal.returns-then-number
unfolding is_refused
returns-then-number c =
    simp (refused_read c.read_book.ensures c.in-Err.is, ← c.number.ensures, eq-eqb _ _ c.if-number.true)

pub returns-else-number : goal.returns-else-number
unfolding is_refused
returns-else-number c =
    simp (refused_read c.read_book.ensures c.in-Err.is, ← c.number.ensures, ne_eqb _ _ c.if-number.false)
