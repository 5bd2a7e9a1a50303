-- The printed lines are their parts put one after the other. Assumes nothing.
use Rattle.std.specs.Prelude.{Option, None, Some, MatchOption, is_none, unwrap_or, true, false, List, ◌++◌, ◌≡◌, ℕ, ◌+◌, ◌/◌, ◌%◌, ◌≤◌, ◌<◌, eqb, length}
use native.Mathlib.Omega.{arith}
use Rattle.std.proofs.Common.{add-zero, ne_eqb}
use Rattle.std.proofs.Math.Numerals.{add-one}
use Rattle.page_text.specs.Words.{word}
use Rattle.page_text.specs.Decimal.{decimal}
use Rattle.page_text.specs.Put.{Put, put_none, put_on, put_both}
use Rattle.paper_book.specs.Columns.{at}
use Rattle.page_plan.specs.Printed.{printed_refusal, first_line, request_line, lines}
use Rattle.page_plan.specs.Promise.{PrintsRefusal, Printable, PrintsPlan}
use Rattle.page_plan.specs.declared.shown.Shown.{Shown}
use Rattle.page_plan.specs.Asked.{PrintsShown}
use Rattle.page_plan.specs.Columns.{line_at, same_text}
use Rattle.page_plan.specs.Room.{RequestRoom, request_length, lines_room, request_short}

-- the refusal's line
pub refusal_put :
    {o₀ o₁ o₂ o₃ o₄ : List ℕ} {p₁ p₂ p₃ p₄ : ℕ} (number place : ℕ)
    → Put o₀ o₁ 0 (word "refused ") p₁
    → Put o₁ o₂ p₁ (decimal number) p₂
    → Put o₂ o₃ p₂ (word " at ") p₃
    → Put o₃ o₄ p₃ (decimal place ++ word "\n") p₄
    → p₄ ≤ 4096
    → PrintsRefusal number place o₀ o₄ p₄
unfolding printed_refusal
refusal_put number place p q r s h = record { fits = h; text = put_both (decimal place) (word "\n") (put_on (put_on p q) r) s }

-- the first line, which ends in one of two ways
module _
    {o₀ o₁ o₂ o₃ o₄ o₅ : List ℕ} {start p₁ p₂ p₃ p₄ p₅ : ℕ} (earned number cut : ℕ)
    (profit : Put o₀ o₁ start (word "profit ") p₁)
    (earnings : Put o₁ o₂ p₁ (decimal earned) p₂)
    (kept : Put o₂ o₃ p₂ (word " kept ") p₃)
    (counted : Put o₃ o₄ p₃ (decimal number) p₄)
    (cuts : Put o₄ o₅ p₄ (word " cut ") p₅) where
  upto_cut : Put o₀ o₅ start (word "profit " ++ decimal earned ++ word " kept " ++ decimal number ++ word " cut ") p₅
  upto_cut = put_on (put_on (put_on (put_on profit earnings) kept) counted) cuts

  pub first_none : {o₆ : List ℕ} {p₆ : ℕ} → Put o₅ o₆ p₅ (word "none\n") p₆ → Put o₀ o₆ start (first_line true earned number cut) p₆
  unfolding first_line
  first_none end = put_both (word "none") (word "\n") upto_cut end

  pub first_cut : {o₆ : List ℕ} {p₆ : ℕ} → Put o₅ o₆ p₅ (decimal cut ++ word "\n") p₆ → Put o₀ o₆ start (first_line false earned number cut) p₆
  unfolding first_line
  first_cut end = put_both (decimal cut) (word "\n") upto_cut end

-- five numbers, each with the byte after it: four spaces and a line feed
pub request_put :
    {o₀ o₁ o₂ o₃ o₄ o₅ : List ℕ} {start p₁ p₂ p₃ p₄ p₅ : ℕ} (number a b way channel : ℕ)
    → Put o₀ o₁ start (decimal number ++ word " ") p₁
    → Put o₁ o₂ p₁ (decimal a ++ word " ") p₂
    → Put o₂ o₃ p₂ (decimal b ++ word " ") p₃
    → Put o₃ o₄ p₃ (decimal way ++ word " ") p₄
    → Put o₄ o₅ p₄ (decimal channel ++ word "\n") p₅
    → Put o₀ o₅ start (request_line number a b way channel) p₅
unfolding request_line
request_put number a b way channel p q r s t =
    put_both (decimal channel) (word "\n")
    (put_both (decimal way) (word " ") (put_both (decimal b) (word " ") (put_both (decimal a) (word " ") p q) r) s)
    t

-- ---- the lines of the requests

-- the lines of the first i requests stand from `start` on
pub record Printing (a b entries before : List ℕ) (start i : ℕ) (out : List ℕ) (place : ℕ) : Type 0 where
  pub put : Put before out start (lines i (line_at a b entries)) place
  pub room : place ≤ start + lines_room i

pub printing_none : (a b entries before : List ℕ) (start : ℕ) → Printing a b entries before start 0 before start
unfolding lines
printing_none a b entries before start = record { put = rw add-zero at (put_none before start); room = omega arith }

module _ {count : ℕ} {a b entries before out : List ℕ} {start i place : ℕ} (can : Printable count a b entries) (h : i < count) (w : Printing a b entries before start i out place) where
  pub request_room : start + lines_room 256 ≤ length before → RequestRoom out place i (at a i) (at b i) (at entries i / 256) (at entries i % 256)
  request_room r =
      record { enough = omega (arith, request_short i (at a i) (at b i) (at entries i) (omega arith) (can.a_in.below i h) (can.b_in.below i h) (can.entries_in.upto i h)) }

  pub printing_more :
      {after : List ℕ} {next : ℕ} → Put out after place (line_at a b entries i) next → Printing a b entries before start (i + 1) after next
  unfolding lines
  printing_more p =
      record {
        put = rw add-one (put_on w.put p);
        room =
            omega (
              arith,
              request_length i (at a i) (at b i) (at entries i / 256) (at entries i % 256),
              request_short i (at a i) (at b i) (at entries i) (omega arith) (can.a_in.below i h) (can.b_in.below i h) (can.entries_in.upto i h),
            );
      }

-- the first line and the requests' lines are the plan's text
pub plan_put :
    {shape count earned number cut : ℕ} {a b entries before out after : List ℕ} {start r : ℕ}
    → Put before out 0 (first_line (eqb shape 1) earned number cut) start
    → Printing a b entries out start count after r
    → start + lines_room count ≤ 4096
    → PrintsPlan shape count earned number cut a b entries before after r
plan_put {shape} {count} {earned} {number} {cut} {a} {b} {entries} p w room =
    record { fits = omega arith; text = λ book limits profits s h. rw (same_text book shape count earned number cut limits a b profits entries s h) at (put_on p w.put) }

-- of the plan that was asked for
pub shown_put :
    (plan : Shown) {before out after : List ℕ} {start r : ℕ}
    → Put before out 0 (first_line (is_none plan.cut) plan.earned plan.kept (unwrap_or plan.cut 65535)) start
    → Printing plan.a.now plan.b.now plan.entries.now out start (length plan.a.now) after r
    → start + lines_room (length plan.a.now) ≤ 4096
    → PrintsShown plan before after r
unfolding first_line
shown_put plan {before} {out} {after} {start} {r} p w room = by plan.cut p
  where
    Prints : ℕ → ℕ → Type 0
    Prints shape cut = PrintsPlan shape (length plan.a.now) plan.earned plan.kept cut plan.a.now plan.b.now plan.entries.now before after r

    by : (cut : Option ℕ) → Put before out 0 (first_line (is_none cut) plan.earned plan.kept (unwrap_or cut 65535)) start
        → MatchOption cut ((c : ℕ) → Prints 1 c) (λ c. (shape : ℕ) → (shape ≡ 1 → ⊥) → Prints shape c)
    by None q = λ c. plan_put q w room
    by (Some c) q = λ shape other. plan_put (rw (ne_eqb shape 1 other) q) w room
