-- A number in decimal: its digits as ASCII bytes, the highest first, with no leading zero; 0 is "0".
-- A number below 10 is one digit; of any other the last digit is n % 10, and those before it are the digits of n / 10. Assumes nothing.
use Rattle.std.specs.Prelude.{true, false, List, [], ◌∷◌, ◌++◌, ◌≡◌, ℕ, zero, suc, ◌+◌, ◌^◌, ◌/◌, ◌%◌, ◌≤◌, ◌<◌, ltb, length}
use Rattle.std.proofs.Common.{⊎_elim, ◌∙◌, pow-suc, arith, lt-ltb, le-ltb, Fits, length-append}
use Rattle.std.specs.Int.{w64}
use Rattle.base_sums.specs.Each.{less_or_not}

-- the byte of a digit: the code of "0" is 48
abbrev pub digit : ℕ → ℕ
digit d = 48 + d

-- the digits of n, where it has no more than `most`
unfoldable pub digits_of : ℕ → ℕ → List ℕ
digits_of zero n = []
digits_of (suc most) n = elim (ltb n 10) [ true ↦ digit n ∷ [] | false ↦ digits_of most (n / 10) ++ (digit (n % 10) ∷ []) ]

-- n never has more than n + 1 digits
unfoldable pub decimal : ℕ → List ℕ
decimal n = digits_of (suc n) n

-- ---- one digit, and one digit more

one_digit : (most n : ℕ) → n < 10 → digits_of (suc most) n ≡ digit n ∷ []
unfolding digits_of
one_digit most n h = rw (lt-ltb n 10 h, digits_of)

more_digits : (most n : ℕ) → 10 ≤ n → digits_of (suc most) n ≡ digits_of most (n / 10) ++ (digit (n % 10) ∷ [])
unfolding digits_of
more_digits most n h = rw (le-ltb n 10 h, digits_of)

-- any count that is large enough gives the same digits
enough : (s t n : ℕ) → n < s → n < t → digits_of s n ≡ digits_of t n
enough zero t n h k = absurd (omega arith)
enough (suc s) zero n h k = absurd (omega arith)
enough (suc s) (suc t) n h k =
    ⊎_elim (λ l. rw (one_digit s n l, one_digit t n l))
    (λ l. rw (more_digits s n l, more_digits t n l, enough s t (n / 10) (omega arith) (omega arith)))
    (less_or_not n 10)

pub decimal_one : (n : ℕ) → n < 10 → decimal n ≡ digit n ∷ []
unfolding decimal
decimal_one n h = one_digit n n h

pub decimal_more : (n : ℕ) → 10 ≤ n → decimal n ≡ decimal (n / 10) ++ (digit (n % 10) ∷ [])
unfolding decimal
decimal_more n h = more_digits n n h ∙ rw (enough n (suc (n / 10)) (n / 10) (omega arith) (omega arith))

-- ---- how long it is

-- what holds of every number below 10, and of n where it holds of n / 10, holds of every number
pub by_digits : (P : ℕ → Type 0) → ((n : ℕ) → n < 10 → P n) → ((n : ℕ) → 10 ≤ n → P (n / 10) → P n) → (n : ℕ) → P n
by_digits P one more n = below (suc n) n (omega arith)
  where
    below : (most m : ℕ) → m < most → P m
    below zero m h = absurd (omega arith)
    below (suc most) m h = ⊎_elim (λ l. one m l) (λ l. more m l (below most (m / 10) (omega arith))) (less_or_not m 10)

pub length_more : (n : ℕ) → 10 ≤ n → length (decimal n) ≡ length (decimal (n / 10)) + 1
length_more n h = rw (decimal_more n h, length-append)

pub some_digit : (n : ℕ) → 1 ≤ length (decimal n)
some_digit n = by_digits (λ m. 1 ≤ length (decimal m)) (λ m h. rw (decimal_one m h) (omega arith)) (λ m h l. omega (arith, length_more m h)) n

-- a number below 10 ^ k has k digits at most, where k is not 0
pub short : (k n : ℕ) → n < 10 ^ suc k → length (decimal n) ≤ suc k
short zero n h = rw (decimal_one n h) (omega arith)
short (suc k) n h =
    ⊎_elim (λ l. rw (decimal_one n l) (omega arith)) (λ l. omega (arith, length_more n l, short k (n / 10) (omega (arith, pow-suc 10 (suc k)))))
    (less_or_not n 10)

-- what 64 bits hold has 20 digits at most
pub short_64 : (n : ℕ) → Fits w64 n → length (decimal n) ≤ 20
short_64 n h = short 19 n (omega arith)
