-- What reading one record comes to: the row of document 01's table that it breaks, with its place, or the record itself. Assumes nothing.
use Rattle.std.specs.Prelude.{◌≡◌, refl, Result, Ok, Err, ⊤, Bool, true, false, not, List, ◌∷◌, ℕ, ◌+◌, ◌-◌, ◌≤◌, length}
use Rattle.std.proofs.Common.{sym, ◌∙◌, arith}
use Rattle.paper_book.specs.Bytes.{byte, two, blank}
use Rattle.paper_book.specs.Refusals.{start, present, kind_in, mark_in, number_in, shape_in, nodes_in, channels_in, limit_in, a_in, b_in, profit_in, count_wrong}
use Rattle.read_record.specs.declared.Refusal.{Refusal}
use Rattle.read_record.specs.declared.Record.{Record}
use Rattle.read_record.specs.declared.Record.TheVariants as kind
use Rattle.read_record.specs.declared.Network.{Network}
use Rattle.read_record.specs.declared.Span.{Span}
use Rattle.read_record.specs.declared.Request.{Request}
use Rattle.read_record.specs.declared.Head.{Head}
use Rattle.read_record.specs.declared.Row.{Row}
use Rattle.read_record.specs.declared.Row.TheVariants as row
use borrow.Author.Tests.{not-false}
use Rattle.read_record.specs.Shapes.{code_of, shape_of, code_back}
use Rattle.read_record.specs.Tests.{Test, ◌⇒◌, judged, lowest, none_found, first_passed, rest_passed}
use Rattle.read_record.specs.Judged.{NetworkJudged, network_tests, span_tests, request_tests}

-- what a record of any kind begins with, at an offset: the fields that a kind has there are these (`kind_in`, `mark_in`, `number_in`, ..)
abbrev pub head_at : List ℕ → ℕ → Head
head_at f at = record { kind = byte f at; mark = byte f (at + 1); first = two f (at + 2); second = two f (at + 4) }

-- a record that breaks a row is refused by that row at its place
unfoldable pub answer : Result ⊤ Row → (place : ℕ) → Record → Result Record Refusal
answer (Ok fine) place r = Ok r
answer (Err row) place r = Err (record { row = row; place = place })

pub answer_refused :
    (judged : Result ⊤ Row) (place : ℕ) (r : Record) (refusal : Refusal)
    → answer judged place r ≡ Err refusal → (judged ≡ Err refusal.row) × (refusal.place ≡ place)
unfolding answer
answer_refused (Ok fine) place r refusal e = let z : ◌≡◌ {A = ℕ} 0 1 = cc in absurd (omega arith)
answer_refused (Err row) place r refusal e = (cc, cc)

pub answer_got : (judged : Result ⊤ Row) (place : ℕ) (r got : Record) → answer judged place r ≡ Ok got → (judged ≡ Ok tt) × (got ≡ r)
unfolding answer
answer_got (Ok fine) place r got e = (refl, cc)
answer_got (Err row) place r got e = let z : ◌≡◌ {A = ℕ} 0 1 = cc in absurd (omega arith)

-- where the first test finds a fault, and where it does not
pub answer_first : (t : Bool) (n : Row) (ts : List Test) (place : ℕ) (r : Record) → t ≡ true → answer (judged ((t ⇒ n) ∷ ts)) place r ≡ Err (record { row = n; place = place })
unfolding answer judged
answer_first t n ts place r e = rw e

pub answer_rest : (t : Bool) (n : Row) (ts : List Test) (place : ℕ) (r : Record) → t ≡ false → answer (judged ((t ⇒ n) ∷ ts)) place r ≡ answer (judged ts) place r
unfolding judged
answer_rest t n ts place r e = rw e

-- ---- record 0 of a file

abbrev pub network_in : List ℕ → Network
network_in f = record { shape = shape_of (shape_in f); nodes = nodes_in f; channels = channels_in f }

unfoldable pub tests_of_network : List ℕ → List Test
tests_of_network f = (count_wrong (length f) ⇒ row.ByteCount) ∷ network_tests (kind_in f 0) (shape_in f) (nodes_in f) (channels_in f) (blank f 6 10)

abbrev pub network_row : List ℕ → ℕ
network_row f = lowest (tests_of_network f)

unfoldable pub network_record_at : List ℕ → Result Record Refusal
network_record_at f = answer (judged (tests_of_network f)) 0 (kind.Network (network_in f))

-- where it is got its shape is known
pub shape_got : (f : List ℕ) → judged (tests_of_network f) ≡ Ok tt → code_of (shape_of (shape_in f)) ≡ shape_in f
unfolding tests_of_network
shape_got f e =
    let all : 12 ≤ network_row f = omega (arith, none_found (tests_of_network f) e) in
    let kind = rest_passed _ row.ByteCount _ (omega arith) all in
    let shape = rest_passed _ row.Network _ (omega arith) kind in
    code_back (shape_in f) (not-false _ (first_passed _ row.Network _ (omega arith) shape))

-- what judging its fields comes to
module _ (f : List ℕ) (head : Head) (rest : Bool) (right : count_wrong (length f) ≡ false) (h : head ≡ head_at f 0) (r : rest ≡ blank f 6 10) where
  pub network_got : (network : Network) → NetworkJudged head.kind head.mark head.first head.second rest (Ok network) → Ok (kind.Network network) ≡ network_record_at f
  unfolding network_record_at tests_of_network answer kind_in shape_in nodes_in channels_in start
  network_got network j =
      let k : NetworkJudged (byte f 0) (byte f 1) (two f 2) (two f 4) (blank f 6 10) (Ok network) = rw (h, r) at j in
      sym (answer_rest _ _ _ 0 _ right ∙ rw (k.0, k.1) refl)

  pub network_not_got : (row : Row) → NetworkJudged head.kind head.mark head.first head.second rest (Err row) → Err (record { row = row; place = 0 }) ≡ network_record_at f
  unfolding network_record_at tests_of_network answer kind_in shape_in nodes_in channels_in start
  network_not_got row j =
      let k : NetworkJudged (byte f 0) (byte f 1) (two f 2) (two f 4) (blank f 6 10) (Err row) = rw (h, r) at j in
      sym (answer_rest _ _ _ 0 _ right ∙ rw k refl)

-- ---- record r of a file, where a span is due and there are so many channels

abbrev pub span_in : List ℕ → ℕ → Span
span_in f r = record { number = number_in f r; limit = limit_in f r }

unfoldable pub tests_of_span : List ℕ → (r channels : ℕ) → List Test
tests_of_span f r channels =
    (not (present f r) ⇒ row.Span) ∷ span_tests (r - 1) channels (kind_in f r) (mark_in f r) (span_in f r) (blank f (start r + 6) 10)

abbrev pub span_row : List ℕ → (r channels : ℕ) → ℕ
span_row f r channels = lowest (tests_of_span f r channels)

unfoldable pub span_record_at : List ℕ → (r channels : ℕ) → Result Record Refusal
span_record_at f r channels = answer (judged (tests_of_span f r channels)) r (kind.Span (span_in f r))

-- ---- record i of the part of a file that follows the spans, so many records standing before it and there being so many nodes

abbrev pub request_in : List ℕ → ℕ → Request
request_in part i = record { number = number_in part i; a = a_in part i; b = b_in part i; profit = profit_in part i }

unfoldable pub tests_of_request : List ℕ → (i nodes : ℕ) → List Test
tests_of_request part i nodes = request_tests i nodes (kind_in part i) (mark_in part i) (request_in part i) (blank part (start i + 12) 4)

abbrev pub request_row : List ℕ → (i nodes : ℕ) → ℕ
request_row part i nodes = lowest (tests_of_request part i nodes)

unfoldable pub request_record_at : List ℕ → (i before nodes : ℕ) → Result Record Refusal
request_record_at part i before nodes = answer (judged (tests_of_request part i nodes)) (before + i) (kind.Request (request_in part i))
