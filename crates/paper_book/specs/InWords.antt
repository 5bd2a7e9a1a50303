-- Rows 1 to 12 of 01's table "Refusals by number", each in its own words: row n is broken at record r exactly when its sentence is true there.
-- A row is a test put together from comparisons, so its law is put together alike from what each comparison means; the refusals of a span left
-- out, not marked or with a limit above k then follow from the law of when a refusal is given. Assumes nothing.
use Rattle.std.specs.Prelude.{◌≡◌, refl, Bool, true, false, not, ◌&&◌, cond, List, ◌↔◌, ◌⊎◌, ℕ, zero, suc, ◌+◌, ◌-◌, ◌%◌, ◌≤◌, ◌<◌, length, ltb, eqb}
use Rattle.std.proofs.Common.{inl, inr, ⊎_elim, arith, below_more}
use Rattle.std.proofs.Math.Logic.Iff
use Rattle.base_sums.specs.Each.{not_above}
use Rattle.paper_book.specs.Bytes.{byte, blank}
use Rattle.paper_book.specs.Book.{Book}
use Rattle.paper_book.specs.Refusals.{start, records, present, kind_in, mark_in, number_in, shape_in, nodes_in, channels_in, spans_in, limit_in, a_in, b_in, profit_in, known, fewest, count_wrong, network_wrong, nodes_wrong, channels_wrong, span_wrong, mark_wrong, limit_wrong, too_many, request_wrong, ends_wrong, profit_wrong, rows, broken, short_of}
use Rattle.paper_book.specs.Reading.{done, refused, due, reading}
use Rattle.paper_book.specs.Laws.{Unbroken, Clean, Given, span_looked_at, refused_given, given_refused, broken_unread}
use Rattle.paper_book.specs.Means.{less, at_most, same, not_less, not_so, is_not, and, or, or₃, or₄, to_the_right, not_each, and₃}

-- one of the n bytes from an offset on is not 0
abbrev pub NotBlank : List ℕ → ℕ → ℕ → Type 0
NotBlank f at n = (i : ℕ) × (i < n) × (byte f (at + i) ≡ 0 → ⊥)

not_blank : (f : List ℕ) (at n : ℕ) → not (blank f at n) ≡ true ↔ NotBlank f at n
unfolding blank
not_blank f at n = not_each (λ i. same)

-- ---- record 0, the network

-- 1: the byte count is 0, not a multiple of 16, or above 5,136
abbrev pub CountWrong : ℕ → Type 0
CountWrong bytes = (bytes ≡ 0) ⊎ (bytes % 16 ≡ 0 → ⊥) ⊎ (5136 < bytes)

pub count_wrong_lem : {bytes : ℕ} → count_wrong bytes ≡ true ↔ CountWrong bytes
unfolding count_wrong
count_wrong_lem = or₃ same (is_not same) less

abbrev pub Row1 : List ℕ → ℕ → Type 0
Row1 f r = (r ≡ 0) × CountWrong (length f)

pub row_1 : (f : List ℕ) (r : ℕ) → broken f r 1 ≡ true ↔ Row1 f r
unfolding rows
row_1 f r = and same count_wrong_lem

-- 2: record 0: byte 0 or the shape is wrong, or bytes 6–15 not all 0
abbrev pub Row2 : List ℕ → ℕ → Type 0
Row2 f r = (r ≡ 0) × ((kind_in f 0 ≡ 1 → ⊥) ⊎ ((shape_in f ≡ 1) ⊎ (shape_in f ≡ 2) → ⊥) ⊎ NotBlank f 6 10)

pub row_2 : (f : List ℕ) (r : ℕ) → broken f r 2 ≡ true ↔ Row2 f r
unfolding rows network_wrong known
row_2 f r = and same (or₃ (is_not same) (is_not (or same same)) (not_blank f 6 10))

-- 3: nodes outside the range for the shape, 2 to 64 on a line and 3 to 64 on a ring
abbrev pub Row3 : List ℕ → ℕ → Type 0
Row3 f r = (r ≡ 0) × ((nodes_in f < 2) ⊎ ((shape_in f ≡ 2) × (nodes_in f < 3)) ⊎ (64 < nodes_in f))

too_few : (n shape : ℕ) → ltb n (fewest shape) ≡ true ↔ (n < 2) ⊎ ((shape ≡ 2) × (n < 3))
unfolding fewest
too_few n shape = by (eqb shape 2) refl
  where
    by : (t : Bool) → eqb shape 2 ≡ t → ltb n (cond t 3 2) ≡ true ↔ (n < 2) ⊎ ((shape ≡ 2) × (n < 3))
    by true e = (λ h. inr (same.0 e, less.0 h), λ w. less.1 (⊎_elim (λ l. omega arith) (λ v. v.1) w))
    by false e = (λ h. inl (less.0 h), λ w. less.1 (⊎_elim (λ l. l) (λ v. absurd ((not_so same).0 e v.0)) w))

pub row_3 : (f : List ℕ) (r : ℕ) → broken f r 3 ≡ true ↔ Row3 f r
unfolding rows nodes_wrong
row_3 f r = and same (Iff.trans (or (too_few (nodes_in f) (shape_in f)) less) to_the_right)

-- where it is not broken the nodes are within the range
pub record NodesInRange (f : List ℕ) : Type 0 where
  pub from : 2 ≤ nodes_in f
  pub ring_from : shape_in f ≡ 2 → 3 ≤ nodes_in f
  pub upto : nodes_in f ≤ 64

pub nodes_in_range : (f : List ℕ) → broken f 0 3 ≡ false → NodesInRange f
nodes_in_range f e =
    record {
      from = not_above (λ l. not3 (refl, inl l));
      ring_from = λ ring. not_above (λ l. not3 (refl, inr (inl (ring, l))));
      upto = not_above (λ l. not3 (refl, inr (inr l)));
    }
  where
    not3 : Row3 f 0 → ⊥
    not3 = (not_so (row_3 f 0)).0 e

-- 4: k outside 1 to 96
abbrev pub Row4 : List ℕ → ℕ → Type 0
Row4 f r = (r ≡ 0) × ((channels_in f ≡ 0) ⊎ (96 < channels_in f))

pub row_4 : (f : List ℕ) (r : ℕ) → broken f r 4 ≡ true ↔ Row4 f r
unfolding rows channels_wrong
row_4 f r = and same (or same less)

-- ---- records 1 to s, s being the number of spans

-- 5: a span record is missing, or its byte 0, number or bytes 6–15 are wrong
abbrev pub Row5 : List ℕ → ℕ → Type 0
Row5 f r =
    (0 < r)
    × (r ≤ spans_in f)
    × ((records f ≤ r) ⊎ (kind_in f r ≡ 2 → ⊥) ⊎ (number_in f r ≡ r - 1 → ⊥) ⊎ NotBlank f (start r + 6) 10)

pub row_5 : (f : List ℕ) (r : ℕ) → broken f r 5 ≡ true ↔ Row5 f r
unfolding rows span_wrong present
row_5 f r = and₃ less at_most (or₄ not_less (is_not same) (is_not same) (not_blank f (start r + 6) 10))

-- 6: limit mark other than 1
abbrev pub Row6 : List ℕ → ℕ → Type 0
Row6 f r = (0 < r) × (r ≤ spans_in f) × (mark_in f r ≡ 1 → ⊥)

pub row_6 : (f : List ℕ) (r : ℕ) → broken f r 6 ≡ true ↔ Row6 f r
unfolding rows mark_wrong
row_6 f r = and₃ less at_most (is_not same)

-- 7: limit above k
abbrev pub Row7 : List ℕ → ℕ → Type 0
Row7 f r = (0 < r) × (r ≤ spans_in f) × (channels_in f < limit_in f r)

pub row_7 : (f : List ℕ) (r : ℕ) → broken f r 7 ≡ true ↔ Row7 f r
unfolding rows limit_wrong
row_7 f r = and₃ less at_most less

-- ---- the records after the spans

-- record r stands after the network and the s spans
after : {s r : ℕ} → (ltb s r && ltb 0 r) ≡ true ↔ s < r
after {s} {r} = Iff.trans (and less (less {a = 0} {b = r})) (λ w. w.0, λ h. (h, omega arith))

-- 8: a 257th record stands after the spans
abbrev pub Row8 : List ℕ → ℕ → Type 0
Row8 f r = spans_in f + 256 < r

pub row_8 : (f : List ℕ) (r : ℕ) → broken f r 8 ≡ true ↔ Row8 f r
unfolding rows too_many
row_8 f r = Iff.trans (and (after {s = spans_in f} {r = r}) less) (λ w. w.1, λ h. (omega arith, h))

-- 9: a request's byte 0, byte 1, number or bytes 12–15 are wrong
abbrev pub Row9 : List ℕ → ℕ → Type 0
Row9 f r =
    (spans_in f < r)
    × ((kind_in f r ≡ 3 → ⊥) ⊎ (mark_in f r ≡ 0 → ⊥) ⊎ (number_in f r ≡ r - (1 + spans_in f) → ⊥) ⊎ NotBlank f (start r + 12) 4)

pub row_9 : (f : List ℕ) (r : ℕ) → broken f r 9 ≡ true ↔ Row9 f r
unfolding rows request_wrong
row_9 f r = and after (or₄ (is_not same) (is_not same) (is_not same) (not_blank f (start r + 12) 4))

-- 10: an end is not a node, or a = b
abbrev pub Row10 : List ℕ → ℕ → Type 0
Row10 f r = (spans_in f < r) × ((nodes_in f ≤ a_in f r) ⊎ (nodes_in f ≤ b_in f r) ⊎ (a_in f r ≡ b_in f r))

pub row_10 : (f : List ℕ) (r : ℕ) → broken f r 10 ≡ true ↔ Row10 f r
unfolding rows ends_wrong
row_10 f r = and after (or₃ not_less not_less same)

-- 11: profit 0 or above 1,000,000
abbrev pub Row11 : List ℕ → ℕ → Type 0
Row11 f r = (spans_in f < r) × ((profit_in f r ≡ 0) ⊎ (1000000 < profit_in f r))

pub row_11 : (f : List ℕ) (r : ℕ) → broken f r 11 ≡ true ↔ Row11 f r
unfolding rows profit_wrong
row_11 f r = and after (or same less)

-- ---- the lists beside the file

-- 12: the entry list is shorter than m, or on a line the price list shorter than n − 1
pub row_12 :
    (shape spans count entryRoom priceRoom : ℕ) → short_of shape spans count entryRoom priceRoom ≡ true ↔ (entryRoom < count) ⊎ ((shape ≡ 1) × (priceRoom < spans))
unfolding short_of
row_12 shape spans count entryRoom priceRoom = or less (and same less)

-- it is not given exactly when both are long enough
abbrev pub LongEnough : (shape spans count entryRoom priceRoom : ℕ) → Type 0
LongEnough shape spans count entryRoom priceRoom = (count ≤ entryRoom) × (shape ≡ 1 → spans ≤ priceRoom)

pub long_lists : {shape spans count entryRoom priceRoom : ℕ} → short_of shape spans count entryRoom priceRoom ≡ false ↔ LongEnough shape spans count entryRoom priceRoom
long_lists = Iff.trans (not_so (row_12 _ _ _ _ _)) (
  λ long. (not_above (λ h. long (inl h)), λ line. not_above (λ h. long (inr (line, h)))),
  λ enough. ⊎_elim (λ h. omega (arith, enough.0)) (λ w. omega (arith, w.1, enough.1 w.0)),
)

-- ---- "A span left out, a limit not marked as read on site, or one above the channel count, is refused" (demand 1)

-- where a span is due the network's rows are not broken
not_network : (f : List ℕ) (r : ℕ) → 0 < r → Unbroken f r 5
unfolding rows
not_network f r h zero l = refl
not_network f r h (suc zero) l = (not_so (row_1 f r)).1 (λ w. omega arith)
not_network f r h (suc (suc zero)) l = (not_so (row_2 f r)).1 (λ w. omega arith)
not_network f r h (suc (suc (suc zero))) l = (not_so (row_3 f r)).1 (λ w. omega arith)
not_network f r h (suc (suc (suc (suc zero)))) l = (not_so (row_4 f r)).1 (λ w. omega arith)
not_network f r h (suc (suc (suc (suc (suc m))))) l = absurd (omega arith)

at_span : (f : List ℕ) (n r : ℕ) → r ≤ spans_in f → n < 12 → broken f r n ≡ true → Unbroken f r n → Clean f r → reading f ≡ refused n r
at_span f n r l t here lower before =
    given_refused f n r (record { in_table = t; looked_at = span_looked_at f r l; here = here; lower = lower; before = before })

-- rows 1 to 5 are not broken
below_6 : (f : List ℕ) (r : ℕ) → 0 < r → (Row5 f r → ⊥) → Unbroken f r 6
below_6 f r h not5 = below_more (λ m. broken f r m ≡ false) 5 (not_network f r h) ((not_so (row_5 f r)).1 not5)

pub span_missing_refused : (f : List ℕ) (r : ℕ) → 0 < r → r ≤ spans_in f → records f ≤ r → Clean f r → reading f ≡ refused 5 r
span_missing_refused f r h l missing = at_span f 5 r l (omega arith) ((row_5 f r).1 (h, l, inl missing)) (not_network f r h)

pub mark_refused : (f : List ℕ) (r : ℕ) → Row6 f r → (Row5 f r → ⊥) → Clean f r → reading f ≡ refused 6 r
mark_refused f r w not5 = at_span f 6 r w.1 (omega arith) ((row_6 f r).1 w) (below_6 f r w.0 not5)

pub limit_above_refused : (f : List ℕ) (r : ℕ) → Row7 f r → (Row5 f r → ⊥) → (Row6 f r → ⊥) → Clean f r → reading f ≡ refused 7 r
limit_above_refused f r w not5 not6 =
    at_span f 7 r w.1 (omega arith) ((row_7 f r).1 w) (below_more (λ m. broken f r m ≡ false) 6 (below_6 f r w.0 not5) ((not_so (row_6 f r)).1 not6))

-- whatever else the file holds, before it or after it
pub bad_span_unread : (f : List ℕ) (r : ℕ) → 0 < r → r ≤ spans_in f → (records f ≤ r) ⊎ (mark_in f r ≡ 1 → ⊥) ⊎ (channels_in f < limit_in f r) → (book : Book) → reading f ≡ done book → ⊥
bad_span_unread f r h l =
    ⊎_elim (λ missing. unread 5 (omega arith) ((row_5 f r).1 (h, l, inl missing)))
    (⊎_elim (λ mark. unread 6 (omega arith) ((row_6 f r).1 (h, l, mark))) (λ above. unread 7 (omega arith) ((row_7 f r).1 (h, l, above))))
  where
    unread : (n : ℕ) → n < 12 → broken f r n ≡ true → (book : Book) → reading f ≡ done book → ⊥
    unread n = broken_unread f r n (span_looked_at f r l)

-- ---- the place of 8: Row8 holds of every record from the 257th on, and the 257th is the one refused

pub too_many_place : (f : List ℕ) (p : ℕ) → reading f ≡ refused 8 p → (p ≡ 1 + spans_in f + 256) × (p < records f)
unfolding due
too_many_place f p e = (omega (arith, past, not_past), omega (arith, past, g.looked_at))
  where
    g : Given f 8 p
    g = refused_given f 8 p e

    past : spans_in f + 256 < p
    past = (row_8 f p).0 g.here

    not_past : 1 + spans_in f + 256 < p → ⊥
    not_past h = (not_so (row_8 f (1 + spans_in f + 256))).0 (g.before (1 + spans_in f + 256) h 8 (omega arith)) (omega arith)
