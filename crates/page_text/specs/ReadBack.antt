-- What is printed in decimal can be read back: no zero leads, and the digits' value is the number. So two numbers never print the same. Assumes nothing.
use Rattle.std.specs.Prelude.{List, [], ◌∷◌, ◌++◌, ◌≡◌, refl, ℕ, ◌+◌, ◌*◌, ◌-◌, ◌/◌, ◌%◌, ◌≤◌, get_or}
use Rattle.std.proofs.Common.{ap, sym, ◌∙◌, arith}
use Rattle.std.proofs.Math.ListN.{get_or-append}
use Rattle.page_text.specs.Decimal.{digit, decimal, decimal_one, decimal_more, some_digit, by_digits}

-- the number that digits come to, read from the left after v
unfoldable pub value_after : ℕ → List ℕ → ℕ
value_after v [] = v
value_after v (d ∷ ds) = value_after (10 * v + (d - 48)) ds

value_append : (v : ℕ) (ds es : List ℕ) → value_after v (ds ++ es) ≡ value_after (value_after v ds) es
unfolding value_after
value_append v [] es = refl
value_append v (d ∷ ds) es = value_append (10 * v + (d - 48)) ds es

pub value_decimal : (n : ℕ) → value_after 0 (decimal n) ≡ n
unfolding value_after
value_decimal n =
    by_digits (λ m. value_after 0 (decimal m) ≡ m)
    (λ m h. rw (decimal_one m h) (omega arith))
    (λ m h e. rw (decimal_more m h, value_append, e) (omega arith))
    n

pub decimal_once : (m n : ℕ) → decimal m ≡ decimal n → m ≡ n
decimal_once m n e = sym (value_decimal m) ∙ ap (value_after 0) e ∙ value_decimal n

pub no_zero_leads : (n : ℕ) → 1 ≤ n → digit 1 ≤ get_or (decimal n) 0 0
no_zero_leads n =
    by_digits (λ m. 1 ≤ m → digit 1 ≤ get_or (decimal m) 0 0)
    (λ m h l. rw (decimal_one m h) (omega arith))
    (λ m h more l. rw (decimal_more m h, get_or-append (decimal (m / 10)) (digit (m % 10) ∷ []) 0 0 (some_digit (m / 10))) (more (omega arith)))
    n
