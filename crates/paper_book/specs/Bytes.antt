-- Bytes to numbers, high byte first (01, "Order book records"; "What the desk plans" for the lent lists).
-- A byte list is a list of numbers; past its end a byte reads as 0, and no definition looks there before its length is tested.
-- Assumes nothing.
use Rattle.std.specs.Prelude.{Bool, List, ℕ, ◌+◌, ◌*◌, ◌/◌, length, get_or, eqb}
use Rattle.base_sums.specs.Each.{each}

-- the byte at an offset
abbrev pub byte : List ℕ → ℕ → ℕ
byte f at = get_or f at 0

-- the number in two bytes, and in four
unfoldable pub two : List ℕ → ℕ → ℕ
two f at = byte f at * 256 + byte f (at + 1)

unfoldable pub four : List ℕ → ℕ → ℕ
four f at = two f at * 65536 + two f (at + 2)

-- the n bytes from an offset on are all 0
unfoldable pub blank : List ℕ → ℕ → ℕ → Bool
blank f at n = each n (λ i. eqb (byte f (at + i)) 0)

-- A lent byte list holds entries of two bytes and prices of four. Bytes left over make no place.
unfoldable pub entry_places : List ℕ → ℕ
entry_places bytes = length bytes / 2

unfoldable pub price_places : List ℕ → ℕ
price_places bytes = length bytes / 4

unfoldable pub entry_in : List ℕ → ℕ → ℕ
entry_in bytes i = two bytes (2 * i)

unfoldable pub price_in : List ℕ → ℕ → ℕ
price_in bytes j = four bytes (4 * j)
