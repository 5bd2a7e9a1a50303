-- The checker's ways out, one law each (01, "Refusals by number": after the book's own 14, then 12, then 13, and only then yes or no). A way out is
-- taken where none before it was. Assumes nothing.
use Rattle.std.specs.Prelude.{◌≡◌, Bool, true, false, List, ℕ, ◌≤◌, ◌<◌}
use Rattle.std.proofs.Common.{arith}
use borrow.Author.Tests.{ltb-false, lt-ltb, le-ltb, eq-eqb}
use Rattle.std.proofs.Math.Dec.{ltb}
use Rattle.base_sums.specs.Each.{before_first, first_none}
use Rattle.paper_book.specs.Bytes.{entry_in, price_in}
use Rattle.paper_book.specs.Book.{Book, spans}
use Rattle.paper_book.specs.Reading.{Outcome, done, refused, and_then, reading}
use Rattle.paper_rules.specs.Prices.{verdict}
use Rattle.paper_rules.specs.Operations.{too_short, too_dear, checking, checker}
use Rattle.law_line.specs.Line.{Line}
use Rattle.law_line.specs.Ways.{no_ring}

-- ---- "every operation on a book gives the book's refusals before its own"

module _ (file entries prices : List ℕ) where
  pub book_refused : {number place : ℕ} → reading file ≡ refused number place → refused number place ≡ checker file entries prices
  unfolding checker and_then
  book_refused e = rw e

  pub book_accepted : {book : Book} {out : Outcome Bool} → reading file ≡ done book → out ≡ checking book entries prices → out ≡ checker file entries prices
  unfolding checker and_then
  book_accepted e said = rw e said

-- ---- an accepted book

pub ring_refused : (book : Book) (entries prices : List ℕ) → book.shape ≡ 2 → refused 14 0 ≡ checking book entries prices
unfolding checking
ring_refused book entries prices e = rw (eq-eqb book.shape 2 e)

module _ {book : Book} (on : Line book) (entries prices : List ℕ) where
  -- 12: a list has too few places
  pub short_refused : too_short book entries prices ≡ true → refused 12 0 ≡ checking book entries prices
  unfolding checking
  short_refused e = rw (no_ring on, e)

  -- 13: the first span that is too dear, if there is one
  module _ (long : too_short book entries prices ≡ false) where
    pub dear_refused : too_dear book (price_in prices) < spans book → refused 13 (too_dear book (price_in prices)) ≡ checking book entries prices
    unfolding checking
    dear_refused l = rw (no_ring on, long, lt-ltb (too_dear book (price_in prices)) (spans book) l)

    pub verdict_given : spans book ≤ too_dear book (price_in prices) → done (verdict book (entry_in entries) (price_in prices)) ≡ checking book entries prices
    unfolding checking
    verdict_given l = rw (no_ring on, long, le-ltb (too_dear book (price_in prices)) (spans book) l)

-- there is none exactly when every price is at most 1,000,000
module _ (book : Book) (prices : List ℕ) where
  pub all_low : spans book ≤ too_dear book (price_in prices) → (s : ℕ) → s < spans book → price_in prices s ≤ 1000000
  unfolding too_dear
  all_low none s l = ltb-false 1000000 (price_in prices s) (before_first (spans book) (λ t. ltb 1000000 (price_in prices t)) s (omega arith))

  pub none_dear : ((s : ℕ) → s < spans book → price_in prices s ≤ 1000000) → spans book ≤ too_dear book (price_in prices)
  unfolding too_dear
  none_dear low = omega (arith, first_none (spans book) (λ s. ltb 1000000 (price_in prices s)) (λ s l. le-ltb 1000000 (price_in prices s) (low s l)))
