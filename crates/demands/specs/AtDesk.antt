-- Demand 3, last sentence, at the boundary: what `melyonva_plan` writes is what `melyonva_check` reads. So the entries and prices in the caller's bytes get a
-- yes, and with those prices every best plan gets a yes and no other plan does; the prices of two calls say the same of every plan. Assumes nothing.
use Rattle.std.specs.Prelude.{true, false, List, ◌≡◌, refl, ℕ, ◌+◌, ◌*◌, ◌^◌, ◌/◌, ◌%◌, ◌≤◌, ◌<◌}
use Rattle.std.proofs.Math.Path.{sym, ap}
use Rattle.std.proofs.Common.{◌∙◌, mod-eq_of_lt, arith}
use Rattle.std.proofs.Math.Nat.{div-div-eq-div-mul}
use Rattle.base_sums.specs.Each.{same_test}
use Rattle.paper_book.specs.Bytes.{byte, two, four, entry_in, price_in, entry_places, price_places}
use Rattle.paper_book.specs.Book.{Book, spans, count}
use Rattle.paper_book.specs.InWords.{LongEnough}
use Rattle.paper_book.specs.Reading.{done, reading}
use Rattle.paper_book.specs.Sound.{sound}
use Rattle.paper_rules.specs.Plans.{Plan, Best}
use Rattle.paper_rules.specs.Prices.{Prices, verdict}
use Rattle.paper_rules.specs.Operations.{plannable, checker, Priced}
use Rattle.law_line.specs.Line.{Line}
use Rattle.law_line.specs.Ceiling.{yes_for_best, no_for_others}
use Rattle.check_plan.specs.Demand3.{is_verdict}
use Rattle.plan_book.specs.Cases.{plannable_read}
use Rattle.desk.specs.Packing.{packed_verdict}
use Rattle.desk.specs.Promise.{Written, EntriesWritten, PricesWritten, Handed, PlanAnswer}
use Rattle.desk.specs.Bounds.{long_enough}
use Rattle.demands.specs.Equal.{prices_equal}
use Rattle.demands.specs.NotRead.{verdict_same}

-- ---- the bytes that are written are the numbers that are read

-- the byte at place t, with k bytes of number i before it and j after it
byte_at :
    {w n : ℕ} {numbers : ℕ → ℕ} {before after : List ℕ} → Written w n numbers before after → {i : ℕ} → i < n → (k j t : ℕ) → k + 1 + j ≡ w → t ≡ w * i + k
    → byte after t ≡ numbers i / 256 ^ j % 256
byte_at written {i} l k j t e is = rw is (written.bytes i k j l e)

-- a number of four bytes
by_bytes : (x : ℕ) → x < 256 ^ 4 → (x / 256 ^ 3 % 256 * 256 + x / 256 ^ 2 % 256) * 65536 + (x / 256 ^ 1 % 256 * 256 + x / 256 ^ 0 % 256) ≡ x
by_bytes x l =
    let third : x / 256 / 256 ≡ x / 65536 = div-div-eq-div-mul x 256 256 in
    let fourth : x / 65536 / 256 ≡ x / 16777216 = div-div-eq-div-mul x 65536 256 in
    let none_left : x / 16777216 % 256 ≡ x / 16777216 = mod-eq_of_lt (omega arith) in
    omega arith

pub entry_written : {n : ℕ} {plan : Plan} {before after : List ℕ} → EntriesWritten n plan before after → {i : ℕ} → i < n → entry_in after i ≡ plan i
unfolding entry_in two
entry_written w {i} l = omega (arith, w.whole i l, byte_at w l 0 1 (2 * i) refl (omega arith), byte_at w l 1 0 (2 * i + 1) refl refl)

pub price_written : {n : ℕ} {prices : Prices} {before after : List ℕ} → PricesWritten n prices before after → {j : ℕ} → j < n → price_in after j ≡ prices j
unfolding price_in four two
price_written {prices} w {j} l =
    rw
    (byte_at w l 0 3 (4 * j) refl (omega arith), byte_at w l 1 2 (4 * j + 1) refl refl, byte_at w l 2 1 (4 * j + 2) refl refl, byte_at w l 3 0 (4 * j + 2 + 1) refl (omega arith))
    (by_bytes (prices j) (w.whole j l))

-- ---- a line's book that `melyonva_plan` plans

module _ {file entries prices entries' prices' : List ℕ} {answer : ℕ} (made : PlanAnswer file entries prices answer entries' prices')
    {book : Book} (long : plannable file entries prices ≡ done book) (line : book.shape ≡ 1)
  where
    handed : Handed book answer entries prices entries' prices'
    handed = made.plan book long

    read : reading file ≡ done book
    unfolding plannable
    read = (plannable_read file (entry_places entries) (price_places prices) book long).0

    enough : LongEnough book.shape (spans book) (count book) (entry_places entries) (price_places prices)
    unfolding plannable
    enough = long_enough file (entry_places entries) (price_places prices) book long

    on : Line book
    on = record { line = line; sound = sound file book read }

    price_there : (s : ℕ) → s < spans book → price_in prices' s ≡ handed.asked s
    price_there s l = price_written (handed.line_prices line) l

    -- at the prices written, the checker says of every entry list that is long enough what the rules say
    said : (other : List ℕ) → count book ≤ entry_places other → checker file other prices' ≡ done (verdict book (entry_in other) (price_in prices'))
    unfolding price_places
    said other there =
        sym
        (is_verdict
        (record {
          book = book;
          read = read;
          line = line;
          entries_enough = there;
          prices_enough = omega (arith, enough.1 line, (handed.line_prices line).length_same);
          price_upto = λ s l. omega (arith, price_there s l, (handed.priced line).small s l);
        }))

    accepted : verdict book (entry_in entries') (price_in prices') ≡ true
    accepted = verdict_same book price_there (λ i l. entry_written handed.written l) ∙ (handed.priced line).accepted

    -- the prices written are accepted prices
    priced_there : Priced book (entry_in entries') (price_in prices')
    priced_there = record { small = λ s l. omega (arith, price_there s l, (handed.priced line).small s l); accepted = accepted }

    entries_there : count book ≤ entry_places entries'
    unfolding entry_places
    entries_there = omega (arith, enough.0, handed.written.length_same)

    -- "at which the checker below accepts the plan" (01)
    pub desk_own_yes : (checker file entries' prices' ≡ done true) × (packed_verdict (checker file entries' prices') ≡ 1)
    unfolding packed_verdict
    desk_own_yes = let yes = said entries' entries_there ∙ ap done accepted in (yes, ap packed_verdict yes)

    -- any entry list with a place for each request
    module _ (other : List ℕ) (there : count book ≤ entry_places other) where
      pub desk_best_gets_yes : Best book (entry_in other) → (checker file other prices' ≡ done true) × (packed_verdict (checker file other prices') ≡ 1)
      unfolding packed_verdict
      desk_best_gets_yes best =
          let yes = said other there ∙ ap done (yes_for_best on (entry_in entries') (entry_in other) (price_in prices') accepted best) in
          (yes, ap packed_verdict yes)

      pub desk_others_get_no : (Best book (entry_in other) → ⊥) → (checker file other prices' ≡ done false) × (packed_verdict (checker file other prices') ≡ 0)
      unfolding packed_verdict
      desk_others_get_no not-best = let no = said other there ∙ ap done (no_for_others on (entry_in other) (price_in prices') not-best) in (no, ap packed_verdict no)

-- the prices that two calls write for one book say the same of every entry list with a place for each request
module _ {file entries₁ prices₁ entries₁' prices₁' entries₂ prices₂ entries₂' prices₂' : List ℕ} {answer₁ answer₂ : ℕ}
    (made₁ : PlanAnswer file entries₁ prices₁ answer₁ entries₁' prices₁') (made₂ : PlanAnswer file entries₂ prices₂ answer₂ entries₂' prices₂')
    {book : Book} (long₁ : plannable file entries₁ prices₁ ≡ done book) (long₂ : plannable file entries₂ prices₂ ≡ done book) (line : book.shape ≡ 1)
  where
    pub desk_prices_say_same : (other : List ℕ) → count book ≤ entry_places other → checker file other prices₁' ≡ checker file other prices₂'
    desk_prices_say_same other there =
        said made₁ long₁ line other there
        ∙ ap done (same_test (prices_equal (on made₁ long₁ line) own₁ own₂ (entry_in other)) (prices_equal (on made₁ long₁ line) own₂ own₁ (entry_in other)))
        ∙ sym (said made₂ long₂ line other there)
      where
        own₁ : Priced book (entry_in entries₁') (price_in prices₁')
        own₁ = priced_there made₁ long₁ line

        own₂ : Priced book (entry_in entries₂') (price_in prices₂')
        own₂ = priced_there made₂ long₂ line
