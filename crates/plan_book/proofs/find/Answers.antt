-- `plan_book::find` meets its contract: what the planner of its shape promises is a plan of the book that the columns hold, and refusal 15 is never its
-- answer. Assumes nothing.
use Rattle.plan_book.specs.Held.{held_line, held_ring, on_line, on_ring}
use Rattle.plan_book.proofs.find.Goals as goal

pub plan_line-requires : goal.plan_line-requires
plan_line-requires c = held_line c.requires.1 c.in-Line.is

pub returns-in_err-plan-in-Line : goal.returns-in_err-plan-in-Line
returns-in_err-plan-in-Line c book held = absurd (c.in_err-plan-in-Line.ensures (held_line held c.in-Line.is))

pub returns-in_ok-plan-in-Line : goal.returns-in_ok-plan-in-Line
returns-in_ok-plan-in-Line c book held = on_line held c.in-Line.is (c.in_ok-plan-in-Line.ensures (held_line held c.in-Line.is))

pub plan_ring-requires : goal.plan_ring-requires
plan_ring-requires c = held_ring c.requires.1 c.in-Ring.is

pub returns-in_err-plan-in-Ring : goal.returns-in_err-plan-in-Ring
returns-in_err-plan-in-Ring c book held = absurd (c.in_err-plan-in-Ring.ensures (held_ring held c.in-Ring.is))

pub returns-in_ok-plan-in-Ring : goal.returns-in_ok-plan-in-Ring
returns-in_ok-plan-in-Ring c book held = on_ring held c.in-Ring.is (c.in_ok-plan-in-Ring.ensures (held_ring held c.in-Ring.is))
