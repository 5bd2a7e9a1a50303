-- What is known of every accepted book. A file that is read breaks no row at any record looked at; each field below is one row, in its words,
-- not broken at the record that the field is read from. Assumes nothing.
use Rattle.std.specs.Prelude.{◌≡◌, refl, Bool, true, false, cond, List, ◌⊎◌, ℕ, ◌+◌, ◌-◌, ◌≤◌, ◌<◌, length, eqb}
use Rattle.std.proofs.Common.{sym, subst, ◌∙◌, ⊎_elim}
use Rattle.std.proofs.Math.Path.{ap}
use Rattle.std.proofs.Math.Logic.{inl, inr}
use native.Mathlib.Omega.{arith}
use Rattle.base_sums.specs.Each.{same_or_not, not_above}
use Rattle.base_sums.specs.Table.{length_table, table_at}
use Rattle.paper_book.specs.Book.{Book, Request, spans_of, spans, limit, count, request, end_a, end_b, profit}
use Rattle.paper_book.specs.Refusals.{records, shape_in, spans_in, limit_in, a_in, b_in, profit_in}
use Rattle.paper_book.specs.Reading.{done, due, request_of, book_of, reading}
use Rattle.paper_book.specs.Laws.{Unbroken, Clean, span_looked_at, present_looked_at, read_clean}
use Rattle.paper_book.specs.Means.{not_so}
use Rattle.paper_book.specs.InWords.{Row2, Row4, Row7, Row8, Row10, Row11, NodesInRange, nodes_in_range, row_2, row_4, row_7, row_8, row_10, row_11}

pub record Sound (book : Book) : Type 0 where
  pub shaped : (book.shape ≡ 1) ⊎ (book.shape ≡ 2)
  pub nodes_from : 2 ≤ book.nodes
  pub ring_from : book.shape ≡ 2 → 3 ≤ book.nodes
  pub nodes_upto : book.nodes ≤ 64
  pub channels_from : 1 ≤ book.channels
  pub channels_upto : book.channels ≤ 96
  pub limits_count : length book.limits ≡ spans book
  pub limit_upto : (s : ℕ) → s < spans book → limit book s ≤ book.channels
  pub count_upto : count book ≤ 256
  pub a_node : (i : ℕ) → i < count book → end_a book i < book.nodes
  pub b_node : (i : ℕ) → i < count book → end_b book i < book.nodes
  pub ends_differ : (i : ℕ) → i < count book → end_a book i ≡ end_b book i → ⊥
  pub profit_from : (i : ℕ) → i < count book → 1 ≤ profit book i
  pub profit_upto : (i : ℕ) → i < count book → profit book i ≤ 1000000

-- ---- how many spans there can be: n − 1 or n, and so at most 64

pub spans_least : (shape nodes : ℕ) → nodes - 1 ≤ spans_of shape nodes
unfolding spans_of
spans_least shape nodes = by (eqb shape 2)
  where
    by : (t : Bool) → nodes - 1 ≤ cond t nodes (nodes - 1)
    by true = omega arith
    by false = omega arith

pub spans_small : (shape nodes : ℕ) → spans_of shape nodes ≤ nodes
unfolding spans_of
spans_small shape nodes = by (eqb shape 2)
  where
    by : (t : Bool) → cond t nodes (nodes - 1) ≤ nodes
    by true = omega arith
    by false = omega arith

pub few_spans : {book : Book} → Sound book → spans book ≤ 64
unfolding spans
few_spans {book} s = omega (arith, spans_small book.shape book.nodes, s.nodes_upto)

-- ---- where the book's parts are read from

pub limit_read : (f : List ℕ) (s : ℕ) → s < spans_in f → limit (book_of f) s ≡ limit_in f (1 + s)
unfolding book_of limit
limit_read f s h = table_at (spans_in f) (λ t. limit_in f (1 + t)) s 0 h

pub count_read : (f : List ℕ) → count (book_of f) ≡ records f - (1 + spans_in f)
unfolding book_of count
count_read f = length_table (records f - (1 + spans_in f)) (λ i. request_of f (1 + spans_in f + i))

-- request i stands in the record so many after the network and the spans
abbrev pub record_of : List ℕ → ℕ → ℕ
record_of f i = 1 + spans_in f + i

pub request_read_lem : (f : List ℕ) (i : ℕ) → i < count (book_of f) → request (book_of f) i ≡ request_of f (record_of f i)
unfolding book_of
request_read_lem f i h = table_at (records f - (1 + spans_in f)) (λ j. request_of f (1 + spans_in f + j)) i _ (omega (arith, count_read f))

module _ (f : List ℕ) (i : ℕ) (h : i < count (book_of f)) where
  pub a_read : end_a (book_of f) i ≡ a_in f (record_of f i)
  unfolding end_a request_of
  a_read = ap (λ (q : Request). q.a) (request_read_lem f i h)

  pub b_read : end_b (book_of f) i ≡ b_in f (record_of f i)
  unfolding end_b request_of
  b_read = ap (λ (q : Request). q.b) (request_read_lem f i h)

  pub profit_read : profit (book_of f) i ≡ profit_in f (record_of f i)
  unfolding profit request_of
  profit_read = ap (λ (q : Request). q.profit) (request_read_lem f i h)

-- ---- the rows that are not broken

module _ (f : List ℕ) (clean : Clean f (due f)) where
  of_network : Unbroken f 0 12
  of_network = clean 0 (span_looked_at f 0 (omega arith))

  of_request : (i : ℕ) → i < count (book_of f) → Unbroken f (record_of f i) 12
  of_request i h = clean (record_of f i) (present_looked_at f (record_of f i) (omega (arith, count_read f)))

  not2 : Row2 f 0 → ⊥
  not2 = (not_so (row_2 f 0)).0 (of_network 2 (omega arith))

  nodes : NodesInRange f
  nodes = nodes_in_range f (of_network 3 (omega arith))

  not4 : Row4 f 0 → ⊥
  not4 = (not_so (row_4 f 0)).0 (of_network 4 (omega arith))

  not7 : (s : ℕ) → s < spans_in f → Row7 f (1 + s) → ⊥
  not7 s h = (not_so (row_7 f (1 + s))).0 (clean (1 + s) (span_looked_at f (1 + s) (omega arith)) 7 (omega arith))

  not8 : (i : ℕ) → i < count (book_of f) → Row8 f (record_of f i) → ⊥
  not8 i h = (not_so (row_8 f (record_of f i))).0 (of_request i h 8 (omega arith))

  not10 : (i : ℕ) → i < count (book_of f) → Row10 f (record_of f i) → ⊥
  not10 i h = (not_so (row_10 f (record_of f i))).0 (of_request i h 10 (omega arith))

  not11 : (i : ℕ) → i < count (book_of f) → Row11 f (record_of f i) → ⊥
  not11 i h = (not_so (row_11 f (record_of f i))).0 (of_request i h 11 (omega arith))

  -- ---- one row a field

  shape_known : (shape_in f ≡ 1) ⊎ (shape_in f ≡ 2)
  shape_known = ⊎_elim inl (λ no1. ⊎_elim inr (λ no2. absurd (not2 (refl, inr (inl (⊎_elim no1 no2))))) (same_or_not (shape_in f) 2)) (same_or_not (shape_in f) 1)

  sound_of : Sound (book_of f)
  unfolding book_of spans spans_in
  sound_of =
      record {
        shaped = shape_known;
        nodes_from = nodes.from;
        ring_from = nodes.ring_from;
        nodes_upto = nodes.upto;
        channels_from = not_above (λ l. not4 (refl, inl (omega arith)));
        channels_upto = not_above (λ l. not4 (refl, inr l));
        limits_count = length_table (spans_in f) (λ s. limit_in f (1 + s));
        limit_upto = λ s h. omega (arith, limit_read f s h, not_above (λ l. not7 s h (omega arith, omega arith, l)));
        count_upto = not_above (λ l. not8 256 l (omega arith));
        a_node = λ i h. not_above (λ l. not10 i h (omega arith, inl (omega (arith, a_read f i h))));
        b_node = λ i h. not_above (λ l. not10 i h (omega arith, inr (inl (omega (arith, b_read f i h)))));
        ends_differ = λ i h e. not10 i h (omega arith, inr (inr (sym (a_read f i h) ∙ (e ∙ b_read f i h))));
        profit_from = λ i h. not_above (λ l. not11 i h (omega arith, inl (omega (arith, profit_read f i h))));
        profit_upto = λ i h. not_above (λ l. not11 i h (omega arith, inr (omega (arith, profit_read f i h))));
      }

pub sound : (f : List ℕ) (book : Book) → reading f ≡ done book → Sound book
sound f book e =
    let (is, clean) = read_clean f book e in
    subst Sound (sym is) (sound_of f clean)
