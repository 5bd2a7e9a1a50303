-- Whatever goes back to the desk fits its bits. A refusal after record 0 is of a file of at most 5,136 bytes and 64 nodes, so its place is small; earnings
-- are at most 256 profits of 1,000,000. Assumes nothing.
use Rattle.std.specs.Prelude.{Bool, true, false, cond, List, ◌≡◌, refl, ℕ, ◌≤◌, ltb, length}
use Rattle.std.proofs.Common.{inr, ⊎_elim, sym, arith, ltb-true}
use Rattle.base_sums.specs.Each.{less_or_not, not_above}
use Rattle.base_sums.specs.Sums.{when, bit, when_le, bit_le, Σ-most}
use Rattle.paper_book.specs.Book.{Book, is_ring, spans, count, profit}
use Rattle.paper_book.specs.Bytes.{entry_in, price_in}
use Rattle.paper_book.specs.Sound.{Sound, sound, spans_small, few_spans}
use Rattle.paper_book.specs.Refusals.{records, spans_in, nodes_in, shape_in}
use Rattle.paper_book.specs.Reading.{Outcome, done, refused, and_then, due, reading, refused_not_done}
use Rattle.paper_book.specs.Means.{not_so}
use Rattle.paper_book.specs.InWords.{row_1, nodes_in_range, LongEnough, long_lists}
use Rattle.paper_book.specs.Laws.{Given, refused_given}
use Rattle.paper_rules.specs.Plans.{Plan, kept, earnings, number_kept}
use Rattle.paper_rules.specs.Cuts.{cut_shown}
use Rattle.paper_rules.specs.Prices.{verdict}
use Rattle.paper_rules.specs.Operations.{places_short, too_short, too_dear, checking, checker, plannable_in, Planned}
use Rattle.law_ring.specs.Ring.{Ring}
use Rattle.law_ring.specs.CutLine.{ring_spans}
use Rattle.law_ring.specs.Choice.{cut_in}
use Rattle.law_ring.specs.PlanLine.{line_shown, ring_shown}
use Rattle.plan_book.specs.Cases.{plannable_read, plannable_refused}

-- a number and a place that a refusal carries
pub record SmallRefusal (number place : ℕ) : Type 0 where
  pub number_upto : number ≤ 15
  pub place_upto : place ≤ 320

-- what a plan's answer carries
pub record SmallPlan (earned number cut : ℕ) : Type 0 where
  pub earned_upto : earned ≤ 256000000
  pub number_upto : number ≤ 256
  pub cut_upto : cut ≤ 65535

given_small : {file : List ℕ} {number place : ℕ} → Given file number place → SmallRefusal number place
unfolding due records spans_in
given_small {file} {place} given = record { number_upto = omega (arith, given.in_table); place_upto = ⊎_elim (λ l. omega arith) late (less_or_not place 1) }
  where
    late : 1 ≤ place → place ≤ 320
    late l =
        let length-ok = (not_so (row_1 file 0)).0 (given.before 0 (omega arith) 1 (omega arith)) in
        let short : length file ≤ 5136 = not_above (λ h. length-ok (refl, inr (inr h))) in
        omega (arith, (nodes_in_range file (given.before 0 (omega arith) 3 (omega arith))).upto, given.looked_at, spans_small (shape_in file) (nodes_in file))

-- the book's refusals and 12
pub refusal_small : (file : List ℕ) (entryRoom priceRoom number place : ℕ) → plannable_in file entryRoom priceRoom ≡ refused number place → SmallRefusal number place
refusal_small file entryRoom priceRoom number place is =
    ⊎_elim (λ e. given_small (refused_given file number place e)) (λ e. record { number_upto = omega (arith, e.0); place_upto = omega (arith, e.1) })
    (plannable_refused file entryRoom priceRoom number place is)

-- a plan's numbers
pub plan_small : {book : Book} {plan : Plan} {earned number shown : ℕ} → Sound book → Planned book plan earned number shown → SmallPlan earned number shown
unfolding earnings number_kept
plan_small {book} {plan} sound made =
    record {
      earned_upto = omega (arith, made.earned_is, sound.count_upto, Σ-most (count book) (λ i. when (kept plan i) (profit book i)) 1000000 (λ i h. omega (arith, when_le (kept plan i) (profit book i), sound.profit_upto i h)));
      number_upto = omega (arith, made.number_is, sound.count_upto, Σ-most (count book) (λ i. bit (kept plan i)) 1 (λ i h. bit_le (kept plan i)));
      cut_upto = omega (arith, made.cut_is, shown_small);
    }
  where
    shown_small : cut_shown book ≤ 65535
    shown_small =
        ⊎_elim (λ e. omega (arith, line_shown book e))
        (λ e. let on : Ring book = record { ring = e; sound = sound } in omega (arith, ring_shown book e, cut_in on, ring_spans on, sound.nodes_upto))
        sound.shaped

-- where a book can be planned, the lists are long enough
pub long_enough : (file : List ℕ) (entryRoom priceRoom : ℕ) (book : Book) → plannable_in file entryRoom priceRoom ≡ done book → LongEnough book.shape (spans book) (count book) entryRoom priceRoom
unfolding places_short
long_enough file entryRoom priceRoom book is = long_lists.0 (plannable_read file entryRoom priceRoom book is).1

-- ---- the checker's: the book's, 14, 12 and 13

step : {number place : ℕ} (ring short dear : Bool) (at : ℕ) (verdict : Bool) → (dear ≡ true → at ≤ 320) →
    cond ring (refused 14 0) (cond short (refused 12 0) (cond dear (refused 13 at) (done verdict))) ≡ refused number place → SmallRefusal number place
step {number} {place} true short dear at verdict h e = let n : 14 ≡ number = cc in let p : 0 ≡ place = cc in record { number_upto = omega arith; place_upto = omega arith }
step {number} {place} false true dear at verdict h e = let n : 12 ≡ number = cc in let p : 0 ≡ place = cc in record { number_upto = omega arith; place_upto = omega arith }
step {number} {place} false false true at verdict h e = let n : 13 ≡ number = cc in let p : at ≡ place = cc in record { number_upto = omega arith; place_upto = omega (arith, h refl) }
step false false false at verdict h e = absurd (refused_not_done (sym e))

checking_small : (book : Book) → Sound book → (entries prices : List ℕ) (number place : ℕ) → checking book entries prices ≡ refused number place → SmallRefusal number place
unfolding checking
checking_small book sound entries prices number place e =
    step (is_ring book) (too_short book entries prices) (ltb (too_dear book (price_in prices)) (spans book)) (too_dear book (price_in prices)) (verdict book (entry_in entries) (price_in prices))
    (λ d. omega (arith, ltb-true (too_dear book (price_in prices)) (spans book) d, few_spans sound))
    e

pub checker_small : (file entries prices : List ℕ) (number place : ℕ) → checker file entries prices ≡ refused number place → SmallRefusal number place
unfolding checker and_then
checker_small file entries prices number place = by (reading file) refl
  where
    by : (o : Outcome Book) → reading file ≡ o → and_then o (λ book. checking book entries prices) ≡ refused number place → SmallRefusal number place
    by (refused n p) is same =
        let same_number : n ≡ number = cc in
        let same_place : p ≡ place = cc in
        rw (same_number, same_place) at (given_small (refused_given file n p is))
    by (done book) is same = checking_small book (sound file book is) entries prices number place same
