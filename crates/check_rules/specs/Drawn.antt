-- What the rules are decided on: an accepted line as columns of numbers, without its profits. Assumes nothing.
use Rattle.std.specs.Prelude.{◌≡◌, List, ℕ, length}
use Rattle.std.proofs.Common.{arith}
use Rattle.base_sums.specs.At.{NumbersBelow}
use Rattle.base_sums.specs.Filled.{Filled}
use Rattle.base_columns.specs.declared.Columns.{Columns}
use Rattle.paper_book.specs.Book as Books
use Rattle.paper_book.specs.Book.{Book, limit, end_a, end_b}
use Rattle.paper_book.specs.Columns.{a_below, b_below}
use Rattle.law_line.specs.Line.{Line}
use Rattle.law_line.specs.HeldLine.{HeldLine}

-- an accepted line, its spans and requests counted, its limits and ends in columns
pub record Drawn (book : Book) (spans : ℕ) (limits : List ℕ) (count : ℕ) (a b : List ℕ) : Type 0 where
  pub on : Line book
  pub spans_is : spans ≡ Books.spans book
  pub counted : count ≡ Books.count book
  pub limit_is : Filled (limit book) spans limits
  pub a_is : Filled (end_a book) count a
  pub b_is : Filled (end_b book) count b

-- lent columns that hold one
abbrev pub DrawnColumns : Book → Columns → Type 0
DrawnColumns book c = Drawn book (length c.limits.now) c.limits.now (length c.a.now) c.a.now c.b.now

-- the rules do not look at the profits
pub drawn :
    {book : Book} {spans count : ℕ} {limits a b profits : List ℕ} → HeldLine book spans count limits a b profits
    → Drawn book spans limits count a b
drawn h = record {
  on = h.line;
  spans_is = h.spans_is;
  counted = h.holds.counted;
  limit_is = record { is = λ s l. h.holds.limit_is s (omega (arith, h.spans_is)) };
  a_is = record { is = h.holds.a_is };
  b_is = record { is = h.holds.b_is };
}

-- the nodes of a line are below 64
pub ends_below :
    {book : Book} {spans count : ℕ} {limits a b profits : List ℕ} → HeldLine book spans count limits a b profits
    → NumbersBelow 64 count a × NumbersBelow 64 count b
ends_below h = (a_below h.line.sound h.holds, b_below h.line.sound h.holds)
