use native.Mathlib.Omega.{arith}
use Rattle.page_text.specs.Decimal.{length_more, some_digit}
use Rattle.page_text.specs.PutDecimal.{put_digit, put_last_digit}
use Rattle.page_text.proofs.Page.+put_decimal.Goals as goal

pub put_byte-requires : goal.put_byte-requires
put_byte-requires t c = omega (arith, some_digit c.args.n)

pub returns-then-n-lt10-clause-put : goal.returns-then-n-lt10-clause-put
returns-then-n-lt10-clause-put t c = put_digit _ (omega arith) c.put_byte.ensures.put

pub put_decimal-requires : goal.put_decimal-requires
put_decimal-requires t c = (omega arith, omega (arith, length_more c.args.n (omega arith)))

pub put_byte-requires-2 : goal.put_byte-requires-2
put_byte-requires-2 t c = omega (arith, length_more c.args.n (omega arith), c.put_decimal.ensures.put.ends, c.put_decimal.ensures.put.as_long)

pub returns-clause-put : goal.returns-clause-put
returns-clause-put t c = put_last_digit _ (omega arith) c.put_decimal.ensures.put c.put_byte-2.ensures.put
