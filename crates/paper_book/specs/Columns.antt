-- The seam between reading a book and working on it: the book as columns of numbers, a place a request. What stands above promises things of any
-- book that its columns hold; how the columns came about is the business of the crate `work_columns` alone. Assumes nothing.
use Rattle.std.specs.Prelude.{List, ◌≡◌, ℕ, ◌≤◌, ◌<◌}
use Rattle.std.proofs.Common.{arith}
use Rattle.base_sums.specs.At.{NumbersBelow}
pub use Rattle.base_sums.specs.At.{at}
use Rattle.paper_book.specs.Book as Books
use Rattle.paper_book.specs.Book.{Book, spans, limit, end_a, end_b, profit}
use Rattle.paper_book.specs.Sound.{Sound}

-- the book's limits, ends and profits stand in these lists; what stands past them is not looked at
pub record Holds (book : Book) (count : ℕ) (limits a b profits : List ℕ) : Type 0 where
  pub counted : count ≡ Books.count book
  pub limit_is : (s : ℕ) → s < spans book → at limits s ≡ limit book s
  pub a_is : (i : ℕ) → i < count → at a i ≡ end_a book i
  pub b_is : (i : ℕ) → i < count → at b i ≡ end_b book i
  pub profit_is : (i : ℕ) → i < count → at profits i ≡ profit book i

-- ---- the columns of an accepted book

module _ {book : Book} {count : ℕ} {limits a b profits : List ℕ} (sound : Sound book) (holds : Holds book count limits a b profits) where
  pub few : count ≤ 256
  few = omega (arith, holds.counted, sound.count_upto)

  pub a_node : (i : ℕ) → i < count → at a i < book.nodes
  a_node i l = omega (arith, holds.a_is i l, sound.a_node i (omega (arith, holds.counted)))

  pub b_node : (i : ℕ) → i < count → at b i < book.nodes
  b_node i l = omega (arith, holds.b_is i l, sound.b_node i (omega (arith, holds.counted)))

  -- no book has more than 64 nodes
  pub a_below : NumbersBelow 64 count a
  a_below = record { few = few; below = λ i l. omega (arith, a_node i l, sound.nodes_upto) }

  pub b_below : NumbersBelow 64 count b
  b_below = record { few = few; below = λ i l. omega (arith, b_node i l, sound.nodes_upto) }

  pub ends_differ : (i : ℕ) → i < count → at a i ≡ at b i → ⊥
  ends_differ i l e = sound.ends_differ i (omega (arith, holds.counted)) (omega (arith, e, holds.a_is i l, holds.b_is i l))

  pub profit_upto : (i : ℕ) → i < count → at profits i ≤ 1000000
  profit_upto i l = omega (arith, holds.profit_is i l, sound.profit_upto i (omega (arith, holds.counted)))
