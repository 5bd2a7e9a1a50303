-- `page_plan::parts::put_first` meets its contract: the parts up to the cut, and then "none" or the cut's number. Assumes nothing.
use Rattle.page_plan.specs.Parts.{first_none, first_cut}
use Rattle.page_plan.proofs.parts.put_first.Goals as goal

pub returns-in-None-clause-put : goal.returns-in-None-clause-put
returns-in-None-clause-put c =
    rw c.in-None.is
    (first_none _ _ _ c.put_word.ensures.put c.put_decimal.ensures.put c.put_word-2.ensures.put c.put_decimal-2.ensures.put c.put_word-3.ensures.put c.put_word-in-None.ensures.put)

pub returns-in-Some-clause-put : goal.returns-in-Some-clause-put
returns-in-Some-clause-put c =
    rw c.in-Some.is
    (first_cut _ _ _ c.put_word.ensures.put c.put_decimal.ensures.put c.put_word-2.ensures.put c.put_decimal-2.ensures.put c.put_word-3.ensures.put c.put_number.ensures.put)
