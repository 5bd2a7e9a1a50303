-- `desk::melyonva_plan` meets its contract: what the planner promises, packed and written; nothing is written before its answer. Assumes nothing.
use Rattle.desk.specs.Handing.{refusal_fits, handed_refusal, numbers_fit, count_there, spans_there, entries_fit, prices_fit, handed_line, handed_ring}
use Rattle.read_record.specs.Shapes.{ring_else}
use Rattle.desk.proofs.melyonva_plan.Goals as goal
use Rattle.desk.proofs.melyonva_plan.Goals.{in-Line, in_default}

pub refusal-requires : goal.refusal-requires
refusal-requires c = refusal_fits c.args.entries.now c.args.prices.now c.plan_book.ensures c.in-Err.is

pub returns-in-Err : goal.returns-in-Err
returns-in-Err c = handed_refusal c.args.entries.now c.args.prices.now c.plan_book.ensures c.in-Err.is c.refusal.ensures

pub shared_ref_as_front-write_numbers : goal.shared_ref_as_front-write_numbers
shared_ref_as_front-write_numbers c = count_there c.args.entries.now c.args.prices.now c.plan_book.ensures c.in-Ok.is

pub shared_ref_as_front-write_numbers-in-Line : goal.shared_ref_as_front-write_numbers-in-Line
shared_ref_as_front-write_numbers-in-Line c = spans_there c.args.entries.now c.args.prices.now c.plan_book.ensures c.in-Ok.is

pub write_numbers-requires-clause-fit : goal.write_numbers-requires-clause-fit
write_numbers-requires-clause-fit c = entries_fit c.args.entries.now c.args.prices.now c.plan_book.ensures c.in-Ok.is

pub write_numbers-requires-in-Line-clause-fit : goal.write_numbers-requires-in-Line-clause-fit
write_numbers-requires-in-Line-clause-fit c = prices_fit c.args.entries.now c.args.prices.now c.plan_book.ensures c.in-Ok.is c.in-Line.is

pub plan-requires : goal.plan-requires
plan-requires c = numbers_fit c.args.entries.now c.args.prices.now c.plan_book.ensures c.in-Ok.is

-- a line's prices are written, a ring's list stays as it was
pub returns-after-plan : goal.returns-after-plan
returns-after-plan c =
    elim c.match-plan.branch [
      | in-Line w ↦
          rw w.prices-is
          (handed_line c.args.entries.now c.args.prices.now c.plan_book.ensures c.in-Ok.is c.plan.ensures c.write_numbers.ensures w.in-Line.is w.write_numbers-in-Line.ensures)
      | in_default w ↦
          rw w.prices-is
          (handed_ring c.args.entries.now c.args.prices.now c.plan_book.ensures c.in-Ok.is c.plan.ensures c.write_numbers.ensures (ring_else _ w.in_default.not-Line))
    ]
