use mathlib.Core.Path.{refl, ◌∙◌}
use Rattle.page_plan.specs.Parts.{printing_none, request_room, printing_more}
use Rattle.page_plan.proofs.parts.put_requests.Goals as goal

pub loop-i-init : goal.loop-i-init
loop-i-init c = (refl, printing_none _ _ _ _ _)

pub put_request-requires-clause-room : goal.put_request-requires-clause-room
put_request-requires-clause-room c = request_room c.requires.printable c.loop-i-test.true c.loop-i.invariant.1 c.requires.lines_room_in_bounds

pub loop-i-preserved : goal.loop-i-preserved
loop-i-preserved c =
    (c.put_request.ensures.same_buffer ∙ c.loop-i.invariant.0, printing_more c.requires.printable c.loop-i-test.true c.loop-i.invariant.1 c.put_request.ensures.put)
