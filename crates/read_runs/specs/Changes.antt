-- The book and its changes, as the program has them, and what the definitions make of each: computed, the changes by one test over the table.
-- Assumes nothing.
use Rattle.std.specs.Prelude.{◌≡◌, refl, true, List, [], ◌∷◌, ◌++◌, ℕ, ◌<◌, get_or, set, take, replicate, ltb}
use Rattle.std.proofs.Common.{ltb-true}
use Rattle.base_sums.specs.Each.{each, each_at, seek}
use Rattle.paper_book.specs.Bytes.{two, four, blank}
use Rattle.paper_book.specs.Book.{spans_of}
use Rattle.paper_book.specs.Refusals.{start, records, present, kind_in, mark_in, number_in, shape_in, nodes_in, channels_in, spans_in, limit_in, a_in, b_in, profit_in, known, fewest, count_wrong, network_wrong, nodes_wrong, channels_wrong, span_wrong, mark_wrong, limit_wrong, too_many, request_wrong, ends_wrong, profit_wrong, rows, fault}
use Rattle.paper_book.specs.Reading.{due, faulty_record, reading}
use Rattle.read_runs.specs.Told.{is_refused, is_done}

-- a line of two nodes and three channels, a span of limit 3, and a request 0 to 1 of profit 1,000,000
abbrev pub book : List ℕ
book =
    (1 ∷ 1 ∷ 0 ∷ 2 ∷ 0 ∷ 3 ∷ []) ++ replicate 10 0
    ++ (2 ∷ 1 ∷ 0 ∷ 0 ∷ 0 ∷ 3 ∷ []) ++ replicate 10 0
    ++ (3 ∷ 0 ∷ 0 ∷ 0 ∷ 0 ∷ 0 ∷ 0 ∷ 1 ∷ 0 ∷ 15 ∷ 66 ∷ 64 ∷ []) ++ replicate 4 0

-- a byte of the book, what is put there, and the refusal that it is to give
abbrev pub at : List ℕ
at = 0 ∷ 1 ∷ 15 ∷ 1 ∷ 3 ∷ 3 ∷ 5 ∷ 5 ∷ 3 ∷ 16 ∷ 19 ∷ 31 ∷ 17 ∷ 21 ∷ 32 ∷ 33 ∷ 35 ∷ 47 ∷ 37 ∷ 39 ∷ 43 ∷ []

abbrev pub value : List ℕ
value = 2 ∷ 3 ∷ 1 ∷ 2 ∷ 1 ∷ 65 ∷ 0 ∷ 97 ∷ 3 ∷ 3 ∷ 1 ∷ 1 ∷ 0 ∷ 4 ∷ 2 ∷ 1 ∷ 1 ∷ 1 ∷ 2 ∷ 0 ∷ 65 ∷ []

abbrev pub number : List ℕ
number = 2 ∷ 2 ∷ 2 ∷ 3 ∷ 3 ∷ 3 ∷ 4 ∷ 4 ∷ 5 ∷ 5 ∷ 5 ∷ 5 ∷ 6 ∷ 7 ∷ 9 ∷ 9 ∷ 9 ∷ 9 ∷ 10 ∷ 10 ∷ 11 ∷ []

abbrev pub place : List ℕ
place = 0 ∷ 0 ∷ 0 ∷ 0 ∷ 0 ∷ 0 ∷ 0 ∷ 0 ∷ 2 ∷ 1 ∷ 1 ∷ 1 ∷ 1 ∷ 1 ∷ 2 ∷ 2 ∷ 2 ∷ 2 ∷ 2 ∷ 2 ∷ 2 ∷ []

-- the book with change k
abbrev pub changed : ℕ → List ℕ
changed k = set book (get_or at k 0) (get_or value k 0)

-- what the readings come to
pub record ReadRight : Type 0 where
  pub whole : is_done (reading book) ≡ true
  pub without_request : is_done (reading (take 32 book)) ≡ true
  pub without_span : is_refused (reading (take 16 book)) 5 1 ≡ true
  pub half_a_record : is_refused (reading (take 24 book)) 1 0 ≡ true
  pub empty : is_refused (reading (take 0 book)) 1 0 ≡ true
  pub inside : (k : ℕ) → k < 21 → get_or at k 0 < 48
  pub change : (k : ℕ) → k < 21 → is_refused (reading (changed k)) (get_or number k 0) (get_or place k 0) ≡ true

pub right : ReadRight
unfolding is_refused is_done reading due faulty_record fault rows seek each records start present kind_in mark_in number_in shape_in nodes_in channels_in spans_in limit_in a_in b_in profit_in known fewest count_wrong network_wrong nodes_wrong channels_wrong span_wrong mark_wrong limit_wrong too_many request_wrong ends_wrong profit_wrong two four blank spans_of
right =
    record {
      whole = refl;
      without_request = refl;
      without_span = refl;
      half_a_record = refl;
      empty = refl;
      inside = λ k h. ltb-true (get_or at k 0) 48 (each_at 21 (λ i. ltb (get_or at i 0) 48) refl k h);
      change = each_at 21 (λ k. is_refused (reading (changed k)) (get_or number k 0) (get_or place k 0)) refl;
    }
