-- The proof of `page_text::Page::put_decimal`, which calls itself: below 10 it puts one digit, else the digits of n / 10, by its own call, and then the last.
-- The number falls. Assumes nothing.
use Rattle.page_text.proofs.Page.+put_decimal.Given as goal

abbrev pub decreases-put_decimal : goal.decreases-put_decimal
decreases-put_decimal l = l.n
