-- A number put in decimal: below 10 it is one byte; else the digits of n / 10 are put, and then the last. Assumes nothing.
use Rattle.std.specs.Prelude.{List, [], ◌∷◌, ◌++◌, ◌≡◌, ℕ, ◌+◌, ◌/◌, ◌%◌, ◌≤◌, ◌<◌, length}
use Rattle.std.proofs.Common.{arith, length-append}
use Rattle.page_text.specs.Decimal.{digit, decimal, decimal_one, decimal_more}
use Rattle.page_text.specs.Put.{Put, put_on}

pub put_digit : {before after : List ℕ} {at next : ℕ} (n : ℕ) → n < 10 → Put before after at (digit n ∷ []) next → Put before after at (decimal n) next
put_digit n h p = rw (decimal_one n h) p

pub put_last_digit :
    {before now after : List ℕ} {at mid next : ℕ} (n : ℕ)
    → 10 ≤ n → Put before now at (decimal (n / 10)) mid → Put now after mid (digit (n % 10) ∷ []) next → Put before after at (decimal n) next
put_last_digit n h p q = rw (decimal_more n h) (put_on p q)

-- where a number and the byte after it end
pub number_ends :
    (before after : List ℕ) (at n end next : ℕ)
    → Put before after at (decimal n ++ (end ∷ [])) next → next ≡ at + length (decimal n) + 1
number_ends before after at n end next p = omega (arith, length-append (decimal n) (end ∷ []))
