-- What the checker works on: an accepted line as columns of numbers, an entry for each request, and for each span a price that is not too high.
-- Its two halves, the rules (crate `check_rules`) and the sums, promise things of any book that stands so. Assumes nothing.
use Rattle.std.specs.Prelude.{List, ℕ, ◌*◌, ◌≤◌, ◌<◌, length}
use Rattle.base_columns.specs.declared.Columns.{Columns}
use Rattle.paper_book.specs.Book.{Book}
use Rattle.paper_book.specs.Bytes.{price_in}
use Rattle.law_line.specs.HeldLine.{HeldLine}

-- an accepted line with its profits, entries enough, and prices enough, none above 1,000,000
pub record CanCheck (spans : ℕ) (limits : List ℕ) (count : ℕ) (a b profits entries prices : List ℕ) : Type 0 where
  pub book : Book
  pub held : HeldLine book spans count limits a b profits
  pub entries_enough : 2 * count ≤ length entries
  pub prices_enough : 4 * spans ≤ length prices
  pub price_upto : (s : ℕ) → s < spans → price_in prices s ≤ 1000000

-- lent columns, entries and prices that are so
abbrev pub CheckableColumns : Columns → List ℕ → List ℕ → Type 0
CheckableColumns c entries prices = CanCheck (length c.limits.now) c.limits.now (length c.a.now) c.a.now c.b.now c.profit.now entries prices
