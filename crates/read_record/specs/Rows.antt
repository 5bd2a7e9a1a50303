-- The rows that the tests give are those of the table: of each record only the rows of its kind can be broken, and the tests are those
-- rows' clauses, in the same order. Assumes nothing.
use Rattle.std.specs.Prelude.{◌≡◌, refl, Bool, true, false, not, List, [], ◌∷◌, ℕ, ◌+◌, ◌-◌, ◌≤◌, ◌<◌, length, get_or, drop, ltb, eqb}
use Rattle.std.proofs.Common.{sym, ◌∙◌, ⊎_elim, arith, lt-ltb, le-ltb, le-leb, ne_eqb}
use Rattle.std.proofs.lemmas.Bool.{lt-leb}
use Rattle.base_sums.specs.Each.{seek, first, less_or_not}
use Rattle.paper_book.specs.Bytes.{blank}
use Rattle.paper_book.specs.Refusals.{start, present, kind_in, mark_in, nodes_in, channels_in, spans_in, a_in, profit_in, known, fewest, count_wrong, network_wrong, nodes_wrong, channels_wrong, span_wrong, mark_wrong, limit_wrong, too_many, request_wrong, ends_wrong, profit_wrong, network_due, span_due, request_due, by_kind, rows, fault}
use Rattle.read_record.specs.declared.Row.TheVariants as row
use Rattle.read_record.specs.Tests.{◌⇒◌, Eleven, lowest, joined, joined₃, joined₄, behind}
use Rattle.read_record.specs.Judged.{request_tests}
use Rattle.read_record.specs.Parts.{kind_part, mark_part, number_part, a_part, b_part, profit_part, rest_part}
use Rattle.read_record.specs.Records.{request_in, tests_of_network, tests_of_span, tests_of_request, network_row, span_row, request_row}

-- ---- the rows of each kind of record

-- the row that record r breaks, by which kind of record is due there
row_by : (network span request : Bool) → List ℕ → ℕ → ℕ
row_by network span request f r = first 12 (λ n. get_or (by_kind network span request f r) n false)

fault_by : (f : List ℕ) (r : ℕ) → fault f r ≡ row_by (network_due f r) (span_due f r) (request_due f r) f r
unfolding fault rows row_by
fault_by f r = refl

network_rows : (f : List ℕ) → row_by true false false f 0 ≡ lowest ((count_wrong (length f) ⇒ row.ByteCount) ∷ (network_wrong f ⇒ row.Network) ∷ (nodes_wrong f ⇒ row.Nodes) ∷ (channels_wrong f ⇒ row.Channels) ∷ [])
unfolding row_by seek lowest
network_rows f = refl

network_fault : (f : List ℕ) → fault f 0 ≡ lowest ((count_wrong (length f) ⇒ row.ByteCount) ∷ (network_wrong f ⇒ row.Network) ∷ (nodes_wrong f ⇒ row.Nodes) ∷ (channels_wrong f ⇒ row.Channels) ∷ [])
network_fault f = fault_by f 0 ∙ rw (le-ltb (spans_in f) 0 (omega arith)) (network_rows f)

span_rows : (f : List ℕ) (r : ℕ) → row_by false true false f r ≡ lowest ((span_wrong f r ⇒ row.Span) ∷ (mark_wrong f r ⇒ row.Mark) ∷ (limit_wrong f r ⇒ row.Limit) ∷ [])
unfolding row_by seek lowest
span_rows f r = refl

span_fault : (f : List ℕ) (r : ℕ) → 0 < r → r ≤ spans_in f → fault f r ≡ lowest ((span_wrong f r ⇒ row.Span) ∷ (mark_wrong f r ⇒ row.Mark) ∷ (limit_wrong f r ⇒ row.Limit) ∷ [])
span_fault f r h l = fault_by f r ∙ rw (ne_eqb r 0 (λ e. omega arith), lt-ltb 0 r h, le-leb r (spans_in f) l, le-ltb (spans_in f) r l) (span_rows f r)

request_rows : (f : List ℕ) (r : ℕ) → row_by false false true f r ≡ lowest ((too_many f r ⇒ row.TooMany) ∷ (request_wrong f r ⇒ row.Request) ∷ (ends_wrong f r ⇒ row.Ends) ∷ (profit_wrong f r ⇒ row.Profit) ∷ [])
unfolding row_by seek lowest
request_rows f r = refl

request_fault : (f : List ℕ) (r : ℕ) → spans_in f < r → fault f r ≡ lowest ((too_many f r ⇒ row.TooMany) ∷ (request_wrong f r ⇒ row.Request) ∷ (ends_wrong f r ⇒ row.Ends) ∷ (profit_wrong f r ⇒ row.Profit) ∷ [])
request_fault f r l = fault_by f r ∙ rw (ne_eqb r 0 (λ e. omega arith), lt-ltb 0 r (omega arith), lt-leb r (spans_in f) l, lt-ltb (spans_in f) r l) (request_rows f r)

-- ---- the tests put together

pub span_row_lem : (f : List ℕ) (r : ℕ) → 0 < r → r ≤ spans_in f → span_row f r (channels_in f) ≡ fault f r
unfolding tests_of_span span_wrong mark_wrong limit_wrong
span_row_lem f r h l = joined₄ (not (present f r)) _ _ _ row.Span _ ∙ sym (span_fault f r h l)

pub network_row_lem : (f : List ℕ) → network_row f ≡ fault f 0
unfolding tests_of_network count_wrong network_wrong nodes_wrong channels_wrong known fewest
network_row_lem f =
    behind (count_wrong (length f)) row.ByteCount _ _
    (joined₃ (not (eqb (kind_in f 0) 1)) _ _ row.Network _
    ∙ behind _ row.Network _ _ (joined (ltb (nodes_in f) _) _ row.Nodes _ ∙ behind _ row.Nodes _ _ (joined (eqb (channels_in f) 0) _ row.Channels [])))
    ∙ sym (network_fault f)

-- request i is one too many where its record is
too_many_lem : (s i : ℕ) → ltb 255 i ≡ ltb (s + 256) (1 + s + i)
too_many_lem s i =
    ⊎_elim (λ h. lt-ltb 255 i h ∙ sym (lt-ltb (s + 256) (1 + s + i) (omega arith))) (λ h. le-ltb 255 i h ∙ sym (le-ltb (s + 256) (1 + s + i) (omega arith)))
    (less_or_not 255 i)

pub request_row_lem : (f : List ℕ) (i : ℕ) → request_row (drop (start (1 + spans_in f)) f) i (nodes_in f) ≡ fault f (1 + spans_in f + i)
unfolding tests_of_request request_wrong ends_wrong profit_wrong too_many
request_row_lem f i =
    moved
    ∙ (behind _ row.TooMany _ _
    (joined₄ (not (eqb (kind_in f r) 3)) _ _ _ row.Request _
    ∙ behind _ row.Request _ _ (joined₃ (not (ltb (a_in f r) (nodes_in f))) _ _ row.Ends _ ∙ behind _ row.Ends _ _ (joined (eqb (profit_in f r) 0) _ row.Profit [])))
    ∙ sym (request_fault f r (omega arith)))
  where
    b : ℕ
    b = 1 + spans_in f

    r : ℕ
    r = b + i

    due : r - b ≡ i
    due = omega arith

    -- the fields stand in the file, and the request's number is counted from the spans
    moved :
        request_row (drop (start b) f) i (nodes_in f)
        ≡ lowest
        ((too_many f r ⇒ row.TooMany)
        ∷ drop 1
        (request_tests (r - b) (nodes_in f) (kind_in f r) (mark_in f r) (request_in f r) (blank f (start r + 12) 4)))
    moved =
        simp
        (kind_part f b i, mark_part f b i, number_part f b i, a_part f b i, b_part f b i, profit_part f b i, rest_part f b i, too_many_lem (spans_in f) i, due)

-- ---- a record breaks one of the first eleven rows

pub eleven_network : (f : List ℕ) → Eleven (tests_of_network f)
unfolding tests_of_network
eleven_network f = (omega arith, (omega arith, (omega arith, (omega arith, (omega arith, (omega arith, (omega arith, (omega arith, tt))))))))

pub eleven_span : (f : List ℕ) (r channels : ℕ) → Eleven (tests_of_span f r channels)
unfolding tests_of_span
eleven_span f r channels = (omega arith, (omega arith, (omega arith, (omega arith, (omega arith, (omega arith, tt))))))

pub eleven_request : (part : List ℕ) (i nodes : ℕ) → Eleven (tests_of_request part i nodes)
unfolding tests_of_request
eleven_request part i nodes =
    (omega arith, (omega arith, (omega arith, (omega arith, (omega arith, (omega arith, (omega arith, (omega arith, (omega arith, (omega arith, tt))))))))))
