-- `page_book::page` meets its contract: the planner refuses or plans, and what it answers is printed. Assumes nothing.
use Rattle.std.proofs.Common.{arith}
use Rattle.page_plan.specs.Fronts.{fronts_printable}
use Rattle.page_book.specs.Page.{page_refused, page_printable, page_line, page_ring}
use Rattle.page_book.proofs.page.Goals as goal
use Rattle.page_book.proofs.page.Goals.{in-Line, in-Ring}

pub shared_ref_as_front-shown : goal.shared_ref_as_front-shown
shared_ref_as_front-shown c = omega (arith, (page_printable c.plan_book.ensures c.in-Ok.is).a_in.few)

pub print_plan-requires : goal.print_plan-requires
print_plan-requires c = let p = page_printable c.plan_book.ensures c.in-Ok.is in fronts_printable _ (omega (arith, p.a_in.few)) p

pub returns-after-plan : goal.returns-after-plan
returns-after-plan c =
    elim c.match-plan.branch [
      | in-Line w ↦ page_line c.plan_book.ensures c.in-Ok.is c.print_plan.ensures w.in-Line.is w.cut-is
      | in-Ring w ↦ page_ring c.plan_book.ensures c.in-Ok.is c.print_plan.ensures w.in-Ring.is w.cut-is
    ]

pub returns-in-Err : goal.returns-in-Err
returns-in-Err c = page_refused c.plan_book.ensures c.in-Err.is c.number.ensures c.print_refusal.ensures
