-- Refusals 1 to 11: for each row of 01's table "Refusals by number", when it is given for record r of a file f. Then 12, which is of the lists beside the file.
-- A record is 16 bytes (01, "Order book records"); record 0 is the network, then the spans, then the requests. Assumes nothing.
use Rattle.std.specs.Prelude.{Bool, false, not, ◌&&◌, ◌||◌, cond, List, [], ◌∷◌, ℕ, ◌+◌, ◌*◌, ◌-◌, ◌/◌, ◌%◌, length, get_or, leb, ltb, eqb}
use Rattle.base_sums.specs.Each.{first}
use Rattle.paper_book.specs.Bytes.{byte, two, four, blank}
use Rattle.paper_book.specs.Book.{spans_of}

-- where record r begins, how many whole records there are, and whether record r is one of them
unfoldable pub start : ℕ → ℕ
start r = 16 * r

unfoldable pub records : List ℕ → ℕ
records f = length f / 16

unfoldable pub present : List ℕ → ℕ → Bool
present f r = ltb r (records f)

-- ---- the fields (01, the record table)

unfoldable pub kind_in : List ℕ → ℕ → ℕ
kind_in f r = byte f (start r)

unfoldable pub mark_in : List ℕ → ℕ → ℕ
mark_in f r = byte f (start r + 1)

unfoldable pub number_in : List ℕ → ℕ → ℕ
number_in f r = two f (start r + 2)

unfoldable pub shape_in : List ℕ → ℕ
shape_in f = byte f 1

unfoldable pub nodes_in : List ℕ → ℕ
nodes_in f = two f 2

unfoldable pub channels_in : List ℕ → ℕ
channels_in f = two f 4

unfoldable pub spans_in : List ℕ → ℕ
spans_in f = spans_of (shape_in f) (nodes_in f)

unfoldable pub limit_in : List ℕ → ℕ → ℕ
limit_in f r = two f (start r + 4)

unfoldable pub a_in : List ℕ → ℕ → ℕ
a_in f r = two f (start r + 4)

unfoldable pub b_in : List ℕ → ℕ → ℕ
b_in f r = two f (start r + 6)

unfoldable pub profit_in : List ℕ → ℕ → ℕ
profit_in f r = four f (start r + 8)

-- ---- the shapes (01, "What the desk plans")

-- 1 is a line, 2 a ring, and there is no other
unfoldable pub known : ℕ → Bool
known shape = eqb shape 1 || eqb shape 2

-- the fewest nodes: 2 on a line, 3 on a ring
unfoldable pub fewest : ℕ → ℕ
fewest shape = cond (eqb shape 2) 3 2

-- ---- the rows

-- 1: the byte count is 0, not a multiple of 16, or above 5,136
unfoldable pub count_wrong : ℕ → Bool
count_wrong bytes = eqb bytes 0 || not (eqb (bytes % 16) 0) || ltb 5136 bytes

-- 2: byte 0 or the shape is wrong, or bytes 6–15 not all 0
unfoldable pub network_wrong : List ℕ → Bool
network_wrong f = not (eqb (kind_in f 0) 1) || not (known (shape_in f)) || not (blank f 6 10)

-- 3: nodes outside the range for the shape: 2 to 64 on a line, 3 to 64 on a ring
unfoldable pub nodes_wrong : List ℕ → Bool
nodes_wrong f = ltb (nodes_in f) (fewest (shape_in f)) || ltb 64 (nodes_in f)

-- 4: k outside 1 to 96
unfoldable pub channels_wrong : List ℕ → Bool
channels_wrong f = eqb (channels_in f) 0 || ltb 96 (channels_in f)

-- 5: a span record is missing, or its byte 0, number or bytes 6–15 are wrong
unfoldable pub span_wrong : List ℕ → ℕ → Bool
span_wrong f r = not (present f r) || not (eqb (kind_in f r) 2) || not (eqb (number_in f r) (r - 1)) || not (blank f (start r + 6) 10)

-- 6: limit mark other than 1
unfoldable pub mark_wrong : List ℕ → ℕ → Bool
mark_wrong f r = not (eqb (mark_in f r) 1)

-- 7: limit above k
unfoldable pub limit_wrong : List ℕ → ℕ → Bool
limit_wrong f r = ltb (channels_in f) (limit_in f r)

-- 8: a 257th record stands after the spans
unfoldable pub too_many : List ℕ → ℕ → Bool
too_many f r = ltb (spans_in f + 256) r

-- 9: a request's byte 0, byte 1, number or bytes 12–15 are wrong
unfoldable pub request_wrong : List ℕ → ℕ → Bool
request_wrong f r =
    not (eqb (kind_in f r) 3) || not (eqb (mark_in f r) 0) || not (eqb (number_in f r) (r - (1 + spans_in f))) || not (blank f (start r + 12) 4)

-- 10: an end is not a node, or a = b
unfoldable pub ends_wrong : List ℕ → ℕ → Bool
ends_wrong f r = not (ltb (a_in f r) (nodes_in f)) || not (ltb (b_in f r) (nodes_in f)) || eqb (a_in f r) (b_in f r)

-- 11: profit 0 or above 1,000,000
unfoldable pub profit_wrong : List ℕ → ℕ → Bool
profit_wrong f r = eqb (profit_in f r) 0 || ltb 1000000 (profit_in f r)

-- ---- which record is due at index r

abbrev pub network_due : List ℕ → ℕ → Bool
network_due f r = eqb r 0

abbrev pub span_due : List ℕ → ℕ → Bool
span_due f r = ltb 0 r && leb r (spans_in f)

abbrev pub request_due : List ℕ → ℕ → Bool
request_due f r = ltb (spans_in f) r && ltb 0 r

-- the table: row n stands at place n, under the kind of record that it is about, and says whether record r breaks it
abbrev pub by_kind : (network span request : Bool) → List ℕ → ℕ → List Bool
by_kind network span request f r =
    false
    ∷ (network && count_wrong (length f))
    ∷ (network && network_wrong f)
    ∷ (network && nodes_wrong f)
    ∷ (network && channels_wrong f)
    ∷ (span && span_wrong f r)
    ∷ (span && mark_wrong f r)
    ∷ (span && limit_wrong f r)
    ∷ (request && too_many f r)
    ∷ (request && request_wrong f r)
    ∷ (request && ends_wrong f r)
    ∷ (request && profit_wrong f r)
    ∷ []

unfoldable pub rows : List ℕ → ℕ → List Bool
rows f r = by_kind (network_due f r) (span_due f r) (request_due f r) f r

abbrev pub broken : List ℕ → ℕ → ℕ → Bool
broken f r n = get_or (rows f r) n false

-- "within a record the lowest number wins": the refusal that record r gives, or 12 where it breaks no row
unfoldable pub fault : List ℕ → ℕ → ℕ
fault f r = first 12 (broken f r)

abbrev pub faulty : List ℕ → ℕ → Bool
faulty f r = ltb (fault f r) 12

-- the place that a refusal of record r carries
abbrev pub place : List ℕ → ℕ → ℕ
place f r = r

-- ---- after the book

-- 12: the entry list is shorter than m, or on a line the price list shorter than n − 1; lists are measured in whole places
unfoldable pub short_of : (shape spans count entryRoom priceRoom : ℕ) → Bool
short_of shape spans count entryRoom priceRoom = ltb entryRoom count || (eqb shape 1 && ltb priceRoom spans)
