-- `page_plan::print_plan` meets its contract: the first line, and then the requests' lines. The first ends at 83 at most, since a number of 64 bits has
-- 20 digits at most, and so there is room for the rest. Assumes nothing.
use Rattle.std.proofs.Common.{rules, arith}
use Rattle.page_plan.specs.Room.{numbers_short, first_ends}
use Rattle.page_plan.specs.Parts.{shown_put}
use Rattle.page_plan.proofs.print_plan.Goals as goal

pub put_first-requires : goal.put_first-requires
put_first-requires c = omega (arith, numbers_short c.args.plan (search rules) (search rules) (λ n e. search rules))

pub put_requests-requires-clause-lines_room_in_bounds : goal.put_requests-requires-clause-lines_room_in_bounds
put_requests-requires-clause-lines_room_in_bounds c = omega (arith, first_ends, numbers_short c.args.plan (search rules) (search rules) (λ n e. search rules))

pub returns : goal.returns
returns c =
    shown_put c.args.plan c.put_first.ensures.put c.put_requests.ensures.printing (omega (arith, first_ends, numbers_short c.args.plan (search rules) (search rules) (λ n e. search rules)))
