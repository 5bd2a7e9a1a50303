-- `page_plan::parts::put_requests` meets its contract. The loop's invariant: the lines of the first `i` requests are put, and take no more than their
-- share of the room. Assumes nothing.
use mathlib.Core.Path.{◌≡◌}
use Rattle.page_plan.specs.Parts.{Printing}
use Rattle.page_plan.proofs.parts.put_requests.Given as goal

abbrev pub invariant-loop-i : goal.invariant-loop-i
invariant-loop-i l =
    (l.page.out.ghost_name ≡ l.initial.page.out.ghost_name)
    × Printing l.plan.a.now l.plan.b.now l.plan.entries.now l.initial.page.out.now l.initial.page.at l.i l.page.out.now l.page.at
