-- `page_plan::print_refusal` meets its contract: the line's four parts are put one after the other. Numbers of 64 bits have 20 digits at most, so
-- there is room. Assumes nothing.
use native.Mathlib.Omega.{arith}
use Rattle.page_text.specs.Decimal.{short_64}
use Rattle.page_text.specs.PutDecimal.{number_ends}
use Rattle.page_plan.specs.Parts.{refusal_put}
use Rattle.page_plan.proofs.print_refusal.Goals as goal

pub put_decimal-requires : goal.put_decimal-requires
put_decimal-requires c = omega (arith, short_64)

pub put_word-requires-2 : goal.put_word-requires-2
put_word-requires-2 c = omega (arith, short_64)

pub put_number-requires : goal.put_number-requires
put_number-requires c = omega (arith, short_64)

pub returns : goal.returns
returns c =
    refusal_put _ _ c.put_word.ensures.put c.put_decimal.ensures.put c.put_word-2.ensures.put c.put_number.ensures.put (omega (arith, short_64, number_ends))
