-- How much room the printed lines take. With ends below 64 and a channel of up to three digits a request's line is 15 bytes long at most, and from request 100 on 16: after the
-- first line, of 83 at most whatever the numbers, 256 requests end before 4,096. Assumes nothing.
use Rattle.std.specs.Prelude.{Option, None, Some, unwrap_or, refl, Bool, true, false, List, ◌≡◌, ℕ, ◌+◌, ◌*◌, ◌-◌, ◌/◌, ◌%◌, ◌≤◌, ◌<◌, length}
use Rattle.std.proofs.Common.{⊎_elim, arith, length-append, Fits, w64}
use Rattle.base_sums.specs.Each.{less_or_not}
use Rattle.page_text.specs.Decimal.{decimal, short, short_64}
use Rattle.page_text.specs.Put.{Put}
use Rattle.page_plan.specs.declared.shown.Shown.{Shown}
use Rattle.page_plan.specs.Printed.{first_line, request_line}

-- there is room for the first line: three numbers, and the words (with "none" in any case)
pub record FirstRoom (out : List ℕ) (at earned number cut : ℕ) : Type 0 where
  pub enough : at + length (decimal earned) + length (decimal number) + length (decimal cut) + 23 ≤ length out

-- where the first line ends
pub first_ends :
    (before after : List ℕ) (at : ℕ) (line : Bool) (earned number cut next : ℕ)
    → Put before after at (first_line line earned number cut) next
    → next ≤ at + length (decimal earned) + length (decimal number) + length (decimal cut) + 23
unfolding first_line
first_ends before after at true earned number cut next p = omega (arith, simp length-append at p.ends)
first_ends before after at false earned number cut next p = omega (arith, simp length-append at p.ends)

cut_short : (cut : Option ℕ) → ((n : ℕ) → cut ≡ Some n → Fits w64 n) → length (decimal (unwrap_or cut 65535)) ≤ 20
cut_short None fits = short 19 65535 (omega arith)
cut_short (Some n) fits = short_64 n (fits n refl)

-- a plan's three numbers of 64 bits have 60 digits at most
pub numbers_short :
    (plan : Shown) → Fits w64 plan.earned → Fits w64 plan.kept → ((n : ℕ) → plan.cut ≡ Some n → Fits w64 n)
    → length (decimal plan.earned) + length (decimal plan.kept) + length (decimal (unwrap_or plan.cut 65535)) ≤ 60
numbers_short plan e k c = omega (arith, short_64 plan.earned e, short_64 plan.kept k, cut_short plan.cut c)

-- there is room for a request's line: five numbers, each with the byte after it
pub record RequestRoom (out : List ℕ) (at number a b way channel : ℕ) : Type 0 where
  pub enough :
      at + length (decimal number) + length (decimal a) + length (decimal b) + length (decimal way) + length (decimal channel) + 5 ≤ length out

pub request_length :
    (number a b way channel : ℕ)
    → length (request_line number a b way channel)
    ≡ length (decimal number) + length (decimal a) + length (decimal b) + length (decimal way) + length (decimal channel) + 5
unfolding request_line
request_length number a b way channel = simp length-append (omega arith)

-- the first n requests' lines are no longer than this
abbrev pub lines_room : ℕ → ℕ
lines_room n = 15 * n + (n - 100)

pub request_short :
    (i a b entry : ℕ) → i < 256 → a < 64 → b < 64 → entry ≤ 2 * 256 + 96
    → length (decimal i) + length (decimal a) + length (decimal b) + length (decimal (entry / 256)) + length (decimal (entry % 256)) + 5 + lines_room i
    ≤ lines_room (i + 1)
request_short i a b entry h k l m =
    ⊎_elim (λ s. omega (arith, short 1 i (omega arith), rest)) (λ s. omega (arith, short 2 i (omega arith), rest)) (less_or_not i 100)
  where
    rest : length (decimal a) + length (decimal b) + length (decimal (entry / 256)) + length (decimal (entry % 256)) ≤ 8
    rest = omega (arith, short 1 a (omega arith), short 1 b (omega arith), short 0 (entry / 256) (omega arith), short 2 (entry % 256) (omega arith))
