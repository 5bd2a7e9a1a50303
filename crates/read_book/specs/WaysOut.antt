-- The ways out of reading a book. A refused record is the first faulty one, since every record before it was got; where all were got, no record
-- that is looked at is faulty. Assumes nothing.
use Rattle.std.specs.Prelude.{◌≡◌, refl, ⊤, Result, Ok, Err, true, List, ℕ, ◌+◌, ◌-◌, ◌≤◌, ◌<◌, length, drop}
use Rattle.std.proofs.Common.{ap, subst, ◌∙◌, le-ltb}
use Rattle.std.proofs.Math.Logic.{inl, ⊎_elim}
use native.Mathlib.Omega.{arith}
use Rattle.base_sums.specs.Each.{less_or_not, of_yes}
use Rattle.paper_book.specs.Refusals.{start, records, shape_in, nodes_in, channels_in, spans_in, fault}
use Rattle.paper_book.specs.Reading.{done, refused, due, book_of, reading}
use Rattle.paper_book.specs.Laws.{Unbroken, Clean, unbroken, first_fault, clean_read, span_looked_at, present_looked_at}
use Rattle.paper_book.specs.Means.{not_so}
use Rattle.paper_book.specs.InWords.{Row5, row_5, NodesInRange, nodes_in_range}
use Rattle.paper_book.specs.Sound.{spans_least, spans_small}
use Rattle.read_record.specs.declared.Refusal.{Refusal}
use Rattle.read_record.specs.Numbers.{number_of}
use Rattle.read_record.specs.declared.Record.{Record}
use Rattle.read_record.specs.declared.Record.TheVariants as kind
use Rattle.read_record.specs.Shapes.{code_of, shape_of}
use Rattle.read_record.specs.Parts.{records_part}
use Rattle.read_record.specs.Records.{answer, network_in, tests_of_network, network_record_at, span_record_at, request_record_at, answer_refused, answer_got, shape_got}
use Rattle.read_record.specs.Rows.{network_row_lem, span_row_lem, request_row_lem, eleven_network, eleven_span, eleven_request}
use Rattle.read_record.specs.Tests.{Test, Eleven, judged, lowest, row_found, none_found}
use Rattle.read_record.specs.declared.Row.{Row}
use Rattle.read_book.specs.Series.{AllGot, Stopped, is_got}
use Rattle.read_book.specs.Spans.{span_series}
use Rattle.read_book.specs.Orders.{request_series}

-- ---- one record

module _ (f : List ℕ) (tests : List Test) (r : ℕ) (got : Record) (is : lowest tests ≡ fault f r) where
  refused_at :
      (refusal : Refusal) → Eleven tests → r < due f → Clean f r → answer (judged tests) r got ≡ Err refusal
      → reading f ≡ refused (number_of refusal.row) refusal.place
  refused_at refusal few h clean e =
      let w = answer_refused (judged tests) r got refusal e in
      let x = row_found tests refusal.row few w.0 in
      first_fault f r h (omega (arith, x.0, x.1, is)) clean ∙ rw (w.1, x.0, is)

  got_clean : is_got (answer (judged tests) r got) ≡ true → Unbroken f r 12
  unfolding answer
  got_clean e = by (judged tests) refl e
    where
      by : (j : Result ⊤ Row) → judged tests ≡ j → is_got (answer j r got) ≡ true → Unbroken f r 12
      by (Ok fine) is_ok e = unbroken f r (le-ltb (fault f r) 12 (omega (arith, none_found tests is_ok, is)))
      by (Err row) is_err e = absurd (of_yes e)

-- the records got after record b
clean_on : (f : List ℕ) (b n : ℕ) → Clean f b → ((i : ℕ) → i < n → Unbroken f (b + i) 12) → Clean f (b + n)
clean_on f b n before on q h = ⊎_elim (before q) (λ l. subst (λ (r : ℕ). Unbroken f r 12) (omega arith) (on (q - b) (omega arith))) (less_or_not q b)

-- ---- the network

pub network_refused : (f : List ℕ) (refusal : Refusal) → network_record_at f ≡ Err refusal → reading f ≡ refused (number_of refusal.row) refusal.place
unfolding network_record_at
network_refused f refusal e = refused_at f (tests_of_network f) 0 _ (network_row_lem f) refusal (eleven_network f) (span_looked_at f 0 (omega arith)) (λ q h. absurd (omega arith)) e

pub got_network : (f : List ℕ) (got : Record) → network_record_at f ≡ Ok got → got ≡ kind.Network (network_in f)
unfolding network_record_at
got_network f got e = (answer_got (judged (tests_of_network f)) 0 _ got e).1

-- what is known once the network was got
pub record Headed (f : List ℕ) : Type 0 where
  pub clean : Clean f 1
  pub shaped : code_of (shape_of (shape_in f)) ≡ shape_in f
  pub least : 1 ≤ spans_in f
  pub most : spans_in f ≤ 64

pub headed : (f : List ℕ) (got : Record) → network_record_at f ≡ Ok got → Headed f
unfolding network_record_at spans_in
headed f got e =
    record {
      clean = λ q h. subst (λ (r : ℕ). Unbroken f r 12) (omega arith) whole;
      shaped = shape_got f (answer_got (judged (tests_of_network f)) 0 _ got e).0;
      least = omega (arith, spans_least (shape_in f) (nodes_in f), nodes.from);
      most = omega (arith, spans_small (shape_in f) (nodes_in f), nodes.upto);
    }
  where
    whole : Unbroken f 0 12
    whole = got_clean f (tests_of_network f) 0 _ (network_row_lem f) (ap is_got e)

    nodes : NodesInRange f
    nodes = nodes_in_range f (whole 3 (omega arith))

-- ---- the spans

abbrev pub span_says : List ℕ → ℕ → Result Record Refusal
span_says f = (span_series f (channels_in f)).says

-- the part of the file that follows the span records
abbrev pub after_spans : List ℕ → List ℕ
after_spans f = drop (start (1 + spans_in f)) f

abbrev pub request_says : List ℕ → ℕ → Result Record Refusal
request_says f = (request_series (after_spans f) (1 + spans_in f) (nodes_in f)).says

module _ (f : List ℕ) (h : Headed f) where
  spans_clean : (n : ℕ) → n ≤ spans_in f → AllGot (span_says f) n → Clean f (1 + n)
  unfolding span_record_at
  spans_clean n l got = clean_on f 1 n h.clean (λ s k. got_clean f _ (1 + s) _ (span_row_lem f (1 + s) (omega arith) (omega arith)) (got s k))

  pub spans_refused : (refusal : Refusal) → Stopped (span_says f) (spans_in f) refusal → reading f ≡ refused (number_of refusal.row) refusal.place
  unfolding span_record_at
  spans_refused refusal stop =
      let r = 1 + stop.at in
      refused_at f _ r _ (span_row_lem f r (omega arith) (omega arith)) refusal (eleven_span f r (channels_in f)) (span_looked_at f r (omega arith)) (spans_clean stop.at (omega arith) stop.before) stop.here

  -- ---- the requests, in the part that follows the spans

  module _ (spans : AllGot (span_says f) (spans_in f)) where
    -- the last span is there, and with it the start of the part
    pub part_there : start (1 + spans_in f) ≤ length f
    unfolding start records
    part_there = ⊎_elim (λ l. omega arith) (λ l. absurd (not5 (h.least, omega arith, inl l))) (less_or_not (spans_in f) (records f))
      where
        not5 : Row5 f (spans_in f) → ⊥
        not5 = (not_so (row_5 f (spans_in f))).0 (spans_clean (spans_in f) (omega arith) spans (spans_in f) (omega arith) 5 (omega arith))

    requests_clean : (n : ℕ) → AllGot (request_says f) n → Clean f (1 + spans_in f + n)
    unfolding request_record_at
    requests_clean n got =
        clean_on f (1 + spans_in f) n (spans_clean (spans_in f) (omega arith) spans) (λ i k. got_clean f _ (1 + spans_in f + i) _ (request_row_lem f i) (got i k))

    pub requests_refused :
        (refusal : Refusal) → Stopped (request_says f) (records (after_spans f)) refusal → reading f ≡ refused (number_of refusal.row) refusal.place
    unfolding request_record_at
    requests_refused refusal stop =
        let r = 1 + spans_in f + stop.at in
        refused_at f _ r _ (request_row_lem f stop.at) refusal (eleven_request (after_spans f) stop.at (nodes_in f)) (present_looked_at f r (omega (arith, records_part f (1 + spans_in f)))) (requests_clean stop.at stop.before) stop.here

    pub all_clean : AllGot (request_says f) (records (after_spans f)) → reading f ≡ done (book_of f)
    unfolding due
    all_clean got = clean_read f (λ r k. requests_clean (records (after_spans f)) got r (omega (arith, records_part f (1 + spans_in f))))
