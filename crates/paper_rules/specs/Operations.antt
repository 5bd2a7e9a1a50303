-- The operations of 01 and the order of their refusals ("Refusals by number": after the book 14, then 12, then 13, and 15 last).
-- Assumes nothing.
use Rattle.std.specs.Prelude.{Bool, true, cond, List, ◌≡◌, ℕ, ◌≤◌, ◌<◌, ltb}
use Rattle.base_sums.specs.Each.{first}
use Rattle.paper_book.specs.Bytes.{entry_places, price_places, entry_in, price_in}
use Rattle.paper_book.specs.Book.{Book, is_ring, spans, count}
use Rattle.paper_book.specs.Refusals.{short_of}
use Rattle.paper_book.specs.Reading.{Outcome, done, refused, and_then, reading}
use Rattle.paper_rules.specs.Plans.{Plan, kept, way, channel, Best, earnings, number_kept, obeys}
use Rattle.paper_rules.specs.Channels.{earlier, by_rule}
use Rattle.paper_rules.specs.Cuts.{plan_line, cut_shown}
use Rattle.paper_rules.specs.Prices.{Prices, verdict}

-- 12: a list has too few places for this book
unfoldable pub places_short : Book → ℕ → ℕ → Bool
places_short book entryRoom priceRoom = short_of book.shape (spans book) (count book) entryRoom priceRoom

unfoldable pub too_short : Book → List ℕ → List ℕ → Bool
too_short book entries prices = places_short book (entry_places entries) (price_places prices)

-- 13: the lowest span whose price is above 1,000,000, or the number of spans where there is none
unfoldable pub too_dear : Book → Prices → ℕ
too_dear book prices = first (spans book) (λ s. ltb 1000000 (prices s))

-- the checker, for an accepted book and then for any file
unfoldable pub checking : Book → List ℕ → List ℕ → Outcome Bool
checking book entries prices =
    let dear = too_dear book (price_in prices) in
    cond (is_ring book) (refused 14 0)
    (cond (too_short book entries prices) (refused 12 0)
    (cond (ltb dear (spans book)) (refused 13 dear) (done (verdict book (entry_in entries) (price_in prices)))))

unfoldable pub checker : List ℕ → List ℕ → List ℕ → Outcome Bool
checker file entries prices = and_then (reading file) (λ book. checking book entries prices)

-- the planner as far as no plan is needed: the book's refusals, then 12
unfoldable pub plannable_in : List ℕ → ℕ → ℕ → Outcome Book
plannable_in file entryRoom priceRoom = and_then (reading file) (λ book. cond (places_short book entryRoom priceRoom) (refused 12 0) (done book))

unfoldable pub plannable : List ℕ → List ℕ → List ℕ → Outcome Book
plannable file entries prices = plannable_in file (entry_places entries) (price_places prices)

-- what the planner hands back of an accepted book: which of several best sets is kept is left open, and nothing else
pub record Planned (book : Book) (plan : Plan) (earned number cut : ℕ) : Type 0 where
  pub fair : obeys book plan ≡ true
  pub best_there : Best (plan_line book) plan
  pub channels : by_rule (plan_line book) plan ≡ true
  pub earned_is : earned ≡ earnings book plan
  pub number_is : number ≡ number_kept book plan
  pub cut_is : cut ≡ cut_shown book

-- on a line the prices too: whole numbers up to 1,000,000, at which the checker accepts the plan
pub record Priced (book : Book) (plan : Plan) (prices : Prices) : Type 0 where
  pub small : (s : ℕ) → s < spans book → prices s ≤ 1000000
  pub accepted : verdict book plan prices ≡ true

-- 15: the kept set is that of a best plan, channels are handed out by the rule, and request r is the first that finds none of 1 to k left.
-- (Proved never to happen: `none_left_never` in the crate `law_ring`; the row stays until 11/14.)
pub record NoneLeft (book : Book) (r : ℕ) : Type 0 where
  pub plan : Plan
  pub other : Plan
  pub other_best : Best (plan_line book) other
  pub same_set : (i : ℕ) → i < count book → (kept plan i ≡ kept other i) × (way plan i ≡ way other i)
  pub channels : by_rule (plan_line book) plan ≡ true
  pub asked : (r < count book) × (kept plan r ≡ true)
  pub none_left : book.channels < channel plan r
  pub before : (i : ℕ) → i < count book → earlier (plan_line book) i r ≡ true → channel plan i ≤ book.channels
