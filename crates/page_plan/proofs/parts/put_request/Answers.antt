-- `page_plan::parts::put_request` meets its contract: five numbers, each with the byte after it. Assumes nothing.
use Rattle.page_plan.specs.Parts.{request_put}
use Rattle.page_plan.proofs.parts.put_request.Goals as goal

pub returns-clause-put : goal.returns-clause-put
returns-clause-put c =
    request_put _ _ _ _ _ c.put_number.ensures.put c.put_number-2.ensures.put c.put_number-3.ensures.put c.put_number-4.ensures.put c.put_number-5.ensures.put
