-- Reading a file (01, "Refusals by number"): records are tested in file order, and the first fault found ends the reading.
-- Of a refused book only its number and place are said. Assumes nothing.
use Rattle.std.specs.Prelude.{cond, List, ◌≡◌, ℕ, ◌+◌, ◌-◌, max, ltb}
use Rattle.std.proofs.Common.{arith}
use Rattle.base_sums.specs.Each.{first}
use Rattle.base_sums.specs.Table.{table}
use Rattle.paper_book.specs.Book.{Book, Request}
use Rattle.paper_book.specs.Refusals.{records, shape_in, nodes_in, channels_in, spans_in, limit_in, a_in, b_in, profit_in, fault, faulty, place}

-- What an operation comes to: its answer, or a refusal with its number and its place.
pub data Outcome (A : Type 0) : Type 0 where
  done : A → Outcome A
  refused : ℕ → ℕ → Outcome A

-- "every operation on a book gives the book's refusals before its own"
unfoldable pub and_then : {A B : Type 0} → Outcome A → (A → Outcome B) → Outcome B
and_then (done x) next = next x
and_then (refused number place) next = refused number place

-- the records looked at: the network, every span, present or missing, and whatever stands after the spans
unfoldable pub due : List ℕ → ℕ
due f = max (1 + spans_in f) (records f)

-- what the records of an accepted file say
unfoldable pub request_of : List ℕ → ℕ → Request
request_of f r = record { a = a_in f r; b = b_in f r; profit = profit_in f r }

unfoldable pub book_of : List ℕ → Book
book_of f =
    record {
      shape = shape_in f;
      nodes = nodes_in f;
      channels = channels_in f;
      limits = table (spans_in f) (λ s. limit_in f (1 + s));
      requests = table (records f - (1 + spans_in f)) (λ i. request_of f (1 + spans_in f + i));
    }

-- the first faulty record, or `due f` where there is none
unfoldable pub faulty_record : List ℕ → ℕ
faulty_record f = first (due f) (faulty f)

unfoldable pub reading : List ℕ → Outcome Book
reading f =
    let r = faulty_record f in
    cond (ltb r (due f)) (refused (fault f r) (place f r)) (done (book_of f))

-- a refusal is no answer
pub refused_not_done : {A : Type 0} {x : A} {n p : ℕ} → refused n p ≡ done x → ⊥
refused_not_done e = let z : ◌≡◌ {A = ℕ} 0 1 = cc in omega arith
