-- What the two printing functions promise, and what the second asks. Assumes nothing.
use Rattle.std.specs.Prelude.{List, ◌≡◌, ℕ, ◌+◌, ◌*◌, ◌≤◌}
use Rattle.base_sums.specs.At.{NumbersBelow, NumbersUpto}
use Rattle.page_text.specs.Put.{Put}
use Rattle.paper_book.specs.Book.{Book}
use Rattle.paper_book.specs.Columns.{at, Holds}
use Rattle.page_plan.specs.Printed.{printed_refusal, printed_plan}

-- a refusal's line: r bytes at the front of the buffer, which is left as it was past them
pub record PrintsRefusal (number place : ℕ) (before after : List ℕ) (r : ℕ) : Type 0 where
  pub fits : r ≤ 4096
  pub text : Put before after 0 (printed_refusal number place) r

-- what the caller sees to: 256 requests at most, whose ends are nodes and whose entries are at most 2 × 256 + 96, which is enough to count digits
pub record Printable (count : ℕ) (a b entries : List ℕ) : Type 0 where
  pub a_in : NumbersBelow 64 count a
  pub b_in : NumbersBelow 64 count b
  pub entries_in : NumbersUpto (2 * 256 + 96) count entries

-- a plan's text, whatever book of that shape the columns hold
pub record PrintsPlan (shape count earned number cut : ℕ) (a b entries before after : List ℕ) (r : ℕ) : Type 0 where
  pub fits : r ≤ 4096
  pub text :
      (book : Book) (limits profits : List ℕ) → book.shape ≡ shape → Holds book count limits a b profits
      → Put before after 0 (printed_plan book (at entries) earned number cut) r
