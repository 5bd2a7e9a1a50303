-- What the exported functions promise for every input: the answer and the later content of every byte of both lists. Assumes nothing.
use Rattle.std.specs.Prelude.{List, ◌≡◌, ℕ, ◌+◌, ◌*◌, ◌^◌, ◌/◌, ◌%◌, ◌≤◌, ◌<◌, length}
use Rattle.paper_book.specs.Bytes.{byte}
use Rattle.paper_book.specs.Book.{Book, spans, count}
use Rattle.paper_book.specs.Reading.{done, refused}
use Rattle.paper_rules.specs.Plans.{Plan}
use Rattle.paper_rules.specs.Prices.{Prices}
use Rattle.paper_rules.specs.Operations.{plannable, Planned, Priced}
use Rattle.desk.specs.Packing.{packed_refusal, packed_plan}

-- The first n numbers are written in w bytes each, high byte first, and every later byte is what it was. A byte with k of its number's bytes before it and
-- j after it counts for 256 ^ j; no number is too large for its bytes.
pub record Written (w n : ℕ) (numbers : ℕ → ℕ) (before after : List ℕ) : Type 0 where
  pub length_same : length after ≡ length before
  pub whole : (i : ℕ) → i < n → numbers i < 256 ^ w
  pub bytes : (i k j : ℕ) → i < n → k + 1 + j ≡ w → byte after (w * i + k) ≡ numbers i / 256 ^ j % 256
  pub later : (t : ℕ) → w * n ≤ t → byte after t ≡ byte before t

-- the entries of a plan, two bytes each; the prices of a line's spans, four
abbrev pub EntriesWritten : ℕ → Plan → List ℕ → List ℕ → Type 0
EntriesWritten = Written 2

abbrev pub PricesWritten : ℕ → Prices → List ℕ → List ℕ → Type 0
PricesWritten = Written 4

-- a plan for an accepted book with lists long enough: the entries are written and, on a line, the prices; on a ring the price list stays as it was
pub record Handed (book : Book) (answer : ℕ) (entries prices entries' prices' : List ℕ) : Type 0 where
  pub plan : Plan
  pub earned : ℕ
  pub number : ℕ
  pub cut : ℕ
  pub says : answer ≡ packed_plan earned number cut
  pub planned : Planned book plan earned number cut
  pub written : EntriesWritten (count book) plan entries entries'
  pub asked : Prices
  pub priced : book.shape ≡ 1 → Priced book plan asked
  pub line_prices : book.shape ≡ 1 → PricesWritten (spans book) asked prices prices'
  pub ring_prices : book.shape ≡ 2 → prices' ≡ prices

-- the planner at the boundary: a refusal writes nothing
pub record PlanAnswer (file entries prices : List ℕ) (answer : ℕ) (entries' prices' : List ℕ) : Type 0 where
  pub refusal : (number place : ℕ) → plannable file entries prices ≡ refused number place → (answer ≡ packed_refusal number place) × (entries' ≡ entries) × (prices' ≡ prices)
  pub plan : (book : Book) → plannable file entries prices ≡ done book → Handed book answer entries prices entries' prices'
