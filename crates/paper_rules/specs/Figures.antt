-- Books A to F and every figure that 01 marks (P) ("Books and figures"), as one statement over a list of files given as bytes, each with
-- its question and its answer. Every answer is computed from the definitions. Assumes nothing.
use Rattle.std.specs.Prelude.{Bool, true, false, ◌&&◌, cond, List, [], ◌∷◌, ◌≡◌, refl, ℕ, zero, suc, ◌+◌, ◌*◌, ◌/◌, ◌%◌, ◌^◌, leb, eqb}
use Rattle.base_sums.specs.Each.{each, some, seek}
use Rattle.base_sums.specs.Sums.{Σ, when}
use Rattle.base_sums.specs.Table.{table}
use Rattle.base_sums.specs.Lowest.{lowest_free}
use Rattle.paper_book.specs.Bytes.{two, four, blank, entry_places, price_places, entry_in, price_in}
use Rattle.paper_book.specs.Book.{Book, spans_of, spans, limit, count, end_a, end_b, profit}
use Rattle.paper_book.specs.Refusals.{start, records, present, kind_in, mark_in, number_in, shape_in, nodes_in, channels_in, spans_in, limit_in, a_in, b_in, profit_in, known, fewest, count_wrong, network_wrong, nodes_wrong, channels_wrong, span_wrong, mark_wrong, limit_wrong, too_many, request_wrong, ends_wrong, profit_wrong, rows, fault, short_of}
use Rattle.paper_book.specs.Reading.{Outcome, done, refused, and_then, due, request_of, book_of, faulty_record, reading}
use Rattle.paper_rules.specs.Ways.{upward, crosses, way_exists, way_from, line_way, crossed}
use Rattle.paper_rules.specs.Plans.{Plan, kept, way, channel, earnings, over, load, share, formed, apart, obeys}
use Rattle.paper_rules.specs.Channels.{lower_end, earlier, held_before, by_rule}
use Rattle.paper_rules.specs.Best.{fits, lowered, best_within, best}
use Rattle.paper_rules.specs.Cuts.{steps, span_at, moved, cut_line, cut_best, cut, plan_line, cut_shown}
use Rattle.paper_rules.specs.Prices.{price_of, ceiling, verdict}
use Rattle.paper_rules.specs.Operations.{places_short, too_short, too_dear, checking, checker}

-- ---- questions and answers

pub data Question : Type 0 where
  -- the best earnings; the sets of requests that earn it within the limits; the cut that is reported
  best_earnings : Question
  best_sets : Question
  cut_reported : Question
  -- entries given as bytes: what a plan that obeys the rules earns; whether the planner could hand them back
  earned_by : List ℕ → Question
  handed_back : List ℕ → Question
  -- prices given as bytes: their ceiling; what the checker says of entries at them
  ceiling_at : List ℕ → Question
  check : List ℕ → List ℕ → Question

pub data Answer : Type 0 where
  number : ℕ → Answer
  sets : List (List ℕ) → Answer
  says : Outcome Bool → Answer
  breaks_the_rules : Answer

-- the numbers below n that pass, from the first of them on
unfoldable pub select : ℕ → ℕ → (ℕ → Bool) → List ℕ
select zero i f = []
select (suc n) i f = elim (f i) [ true ↦ i ∷ select n (suc i) f | false ↦ select n (suc i) f ]

-- set number t of requests: request i is in it where the bit of 2^i is set in t
unfoldable pub in_set : ℕ → ℕ → Bool
in_set t i = eqb (t / 2 ^ i % 2) 1

-- a set as a plan of a line; only its ways and what it earns are looked at
unfoldable pub set_plan : Book → ℕ → Plan
unfolding in_set
set_plan book t i = when (in_set t i) (256 * line_way book i + 1)

unfoldable pub best_set : Book → ℕ → Bool
unfolding set_plan
best_set book t =
    each (spans book) (λ s. leb (load book (set_plan book t) s) (limit book s)) && eqb (earnings book (set_plan book t)) (best book)

unfoldable pub sets_of : Book → List ℕ → List (List ℕ)
unfolding select in_set
sets_of book [] = []
sets_of book (t ∷ ts) = select (count book) 0 (in_set t) ∷ sets_of book ts

-- the answer for an accepted book
unfoldable pub answer : List ℕ → Book → Question → Answer
unfolding select best_set sets_of
answer file book best_earnings = number (best (plan_line book))
answer file book best_sets = sets (sets_of (plan_line book) (select (2 ^ count book) 0 (best_set (plan_line book))))
answer file book cut_reported = number (cut_shown book)
answer file book (earned_by entries) = cond (obeys book (entry_in entries)) (number (earnings book (entry_in entries))) breaks_the_rules
answer file book (handed_back entries) =
    says
    (done
    (obeys book (entry_in entries)
    && obeys (plan_line book) (entry_in entries)
    && eqb (earnings book (entry_in entries)) (best (plan_line book))
    && by_rule (plan_line book) (entry_in entries)))
answer file book (ceiling_at prices) = number (ceiling book (price_in prices))
answer file book (check entries prices) = says (checker file entries prices)

unfoldable pub asked : List ℕ → Outcome Book → Question → Answer
unfolding answer
asked file (done book) q = answer file book q
asked file (refused n p) q = says (refused n p)

-- ---- the statement

pub record Figure : Type 0 where
  pub file : List ℕ
  pub question : Question
  pub figure : Answer

-- every figure of a list is what the definitions give
unfoldable pub Right : List Figure → Type 0
unfolding asked
Right [] = Unit {0}
Right (x ∷ xs) = (asked x.file (reading x.file) x.question ≡ x.figure) × Right xs

-- ---- the books

-- one record: its sixteen bytes, then the rest of the file
abbrev pub rec : ℕ → ℕ → ℕ → ℕ → ℕ → ℕ → ℕ → ℕ → ℕ → ℕ → ℕ → ℕ → ℕ → ℕ → ℕ → ℕ → List ℕ → List ℕ
rec b0 b1 b2 b3 b4 b5 b6 b7 b8 b9 b10 b11 b12 b13 b14 b15 rest =
    b0 ∷ b1 ∷ b2 ∷ b3 ∷ b4 ∷ b5 ∷ b6 ∷ b7 ∷ b8 ∷ b9 ∷ b10 ∷ b11 ∷ b12 ∷ b13 ∷ b14 ∷ b15 ∷ rest

abbrev pub book_a : List ℕ
book_a =
    rec 1 1 0 2 0 4 0 0 0 0 0 0 0 0 0 0
    (rec 2 1 0 0 0 2 0 0 0 0 0 0 0 0 0 0
    (rec 3 0 0 0 0 0 0 1 0 0 0 7 0 0 0 0
    (rec 3 0 0 1 0 0 0 1 0 0 0 6 0 0 0 0
    (rec 3 0 0 2 0 0 0 1 0 0 0 5 0 0 0 0 []))))

abbrev pub book_b : List ℕ
book_b =
    rec 1 1 0 4 0 2 0 0 0 0 0 0 0 0 0 0
    (rec 2 1 0 0 0 2 0 0 0 0 0 0 0 0 0 0
    (rec 2 1 0 1 0 1 0 0 0 0 0 0 0 0 0 0
    (rec 2 1 0 2 0 2 0 0 0 0 0 0 0 0 0 0
    (rec 3 0 0 0 0 0 0 2 0 0 0 4 0 0 0 0
    (rec 3 0 0 1 0 3 0 1 0 0 0 5 0 0 0 0
    (rec 3 0 0 2 0 0 0 1 0 0 0 3 0 0 0 0
    (rec 3 0 0 3 0 2 0 3 0 0 0 2 0 0 0 0 [])))))))

abbrev pub book_c : List ℕ
book_c =
    rec 1 1 0 3 0 1 0 0 0 0 0 0 0 0 0 0
    (rec 2 1 0 0 0 1 0 0 0 0 0 0 0 0 0 0
    (rec 2 1 0 1 0 1 0 0 0 0 0 0 0 0 0 0
    (rec 3 0 0 0 0 0 0 1 0 0 0 4 0 0 0 0
    (rec 3 0 0 1 0 1 0 2 0 0 0 4 0 0 0 0
    (rec 3 0 0 2 0 0 0 2 0 0 0 7 0 0 0 0 [])))))

-- C's line with two requests, on which the shortcut of profit per span fails (01, "Shortcuts that give wrong plans")
abbrev pub book_c2 : List ℕ
book_c2 =
    rec 1 1 0 3 0 1 0 0 0 0 0 0 0 0 0 0
    (rec 2 1 0 0 0 1 0 0 0 0 0 0 0 0 0 0
    (rec 2 1 0 1 0 1 0 0 0 0 0 0 0 0 0 0
    (rec 3 0 0 0 0 0 0 1 0 0 0 4 0 0 0 0
    (rec 3 0 0 1 0 0 0 2 0 0 0 7 0 0 0 0 []))))

abbrev pub book_d : List ℕ
book_d =
    rec 1 1 0 2 0 3 0 0 0 0 0 0 0 0 0 0
    (rec 2 1 0 0 0 0 0 0 0 0 0 0 0 0 0 0
    (rec 3 0 0 0 0 0 0 1 0 0 0 9 0 0 0 0 []))

abbrev pub book_e : List ℕ
book_e =
    rec 1 2 0 4 0 1 0 0 0 0 0 0 0 0 0 0
    (rec 2 1 0 0 0 1 0 0 0 0 0 0 0 0 0 0
    (rec 2 1 0 1 0 1 0 0 0 0 0 0 0 0 0 0
    (rec 2 1 0 2 0 1 0 0 0 0 0 0 0 0 0 0
    (rec 2 1 0 3 0 1 0 0 0 0 0 0 0 0 0 0
    (rec 3 0 0 0 0 0 0 1 0 0 0 5 0 0 0 0
    (rec 3 0 0 1 0 1 0 2 0 0 0 5 0 0 0 0
    (rec 3 0 0 2 0 2 0 3 0 0 0 5 0 0 0 0
    (rec 3 0 0 3 0 3 0 0 0 0 0 5 0 0 0 0 []))))))))

abbrev pub book_f : List ℕ
book_f =
    rec 1 1 0 2 0 1 0 0 0 0 0 0 0 0 0 0
    (rec 2 1 0 0 0 1 0 0 0 0 0 0 0 0 0 0 [])

-- an entry and a price, high byte first: way and channel; a price below 256
abbrev pub entry : ℕ → ℕ → List ℕ → List ℕ
entry w c rest = w ∷ c ∷ rest

abbrev pub price : ℕ → List ℕ → List ℕ
price p rest = 0 ∷ 0 ∷ 0 ∷ p ∷ rest

abbrev pub is : List ℕ → Question → Answer → Figure
is f q a = record { file = f; question = q; figure = a }

abbrev pub says_yes : Answer
says_yes = says (done true)

abbrev pub says_no : Answer
says_no = says (done false)

-- best plans of A and of B
abbrev pub plan_a : List ℕ
plan_a = entry 1 1 (entry 1 2 (entry 0 0 []))

abbrev pub plan_b : List ℕ
plan_b = entry 0 0 (entry 2 1 (entry 1 1 (entry 1 2 [])))

abbrev pub figures : List Figure
figures =
    is book_a best_earnings (number 13)
    ∷ is book_a best_sets (sets ((0 ∷ 1 ∷ []) ∷ []))
    ∷ is book_a (check plan_a (price 5 [])) says_yes
    ∷ is book_a (check plan_a (price 6 [])) says_yes
    ∷ is book_a (ceiling_at (price 4 [])) (number 14)
    ∷ is book_a (check plan_a (price 4 [])) says_no
    ∷ is book_a (ceiling_at (price 7 [])) (number 14)
    ∷ is book_a (check plan_a (price 7 [])) says_no
    ∷ is book_a (check (entry 0 0 (entry 0 0 (entry 0 0 []))) (price 0 [])) says_no
    ∷ is book_b best_earnings (number 10)
    ∷ is book_b best_sets (sets ((1 ∷ 2 ∷ 3 ∷ []) ∷ []))
    ∷ is book_b (handed_back plan_b) says_yes
    ∷ is book_b (check plan_b (price 0 (price 4 (price 0 [])))) says_yes
    ∷ is book_c best_earnings (number 8)
    ∷ is book_c best_sets (sets ((0 ∷ 1 ∷ []) ∷ []))
    ∷ is book_c (handed_back (entry 1 1 (entry 1 1 (entry 0 0 [])))) says_yes
    ∷ is book_c2 best_earnings (number 7)
    ∷ is book_d best_earnings (number 0)
    ∷ is book_d (check (entry 0 0 []) (price 9 [])) says_yes
    ∷ is book_d (ceiling_at (price 8 [])) (number 1)
    ∷ is book_d (check (entry 0 0 []) (price 8 [])) says_no
    ∷ is book_e cut_reported (number 0)
    ∷ is book_e best_earnings (number 15)
    ∷ is book_e best_sets (sets ((1 ∷ 2 ∷ 3 ∷ []) ∷ []))
    ∷ is book_e (handed_back (entry 0 0 (entry 1 1 (entry 1 1 (entry 1 1 []))))) says_yes
    ∷ is book_e (earned_by (entry 1 1 (entry 1 1 (entry 1 1 (entry 1 1 []))))) (number 20)
    ∷ is book_f best_earnings (number 0)
    ∷ is book_f best_sets (sets ([] ∷ []))
    ∷ is book_f (check [] (price 0 [])) says_yes
    ∷ is book_f (ceiling_at (price 1 [])) (number 1)
    ∷ is book_f (check [] (price 1 [])) says_no
    ∷ []

pub figures_right : Right figures
unfolding each some seek Σ table two four blank entry_places price_places entry_in price_in spans_of spans limit count end_a end_b profit start records present kind_in mark_in number_in shape_in nodes_in channels_in spans_in limit_in a_in b_in profit_in known fewest count_wrong network_wrong nodes_wrong channels_wrong span_wrong mark_wrong limit_wrong too_many request_wrong ends_wrong profit_wrong rows fault and_then due request_of book_of faulty_record reading upward crosses way_exists way_from line_way crossed kept way channel earnings over load share formed apart obeys lower_end earlier lowest_free held_before by_rule fits lowered best_within best steps span_at moved cut_line cut_best cut plan_line cut_shown price_of ceiling verdict short_of places_short too_short too_dear checking checker asked Right
figures_right = (refl, (refl, (refl, (refl, (refl, (refl, (refl, (refl, (refl, (refl, (refl, (refl, (refl, (refl, (refl, (refl, (refl, (refl, (refl, (refl, (refl, (refl, (refl, (refl, (refl, (refl, (refl, (refl, (refl, (refl, (refl, tt)))))))))))))))))))))))))))))))
