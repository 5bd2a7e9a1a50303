-- A line with prices on a caller's table: the columns hold an accepted line's book, and no price is above 1,000,000. Assumes nothing.
use Rattle.std.specs.Prelude.{List, ℕ, ◌≤◌, ◌<◌}
use Rattle.paper_book.specs.Book.{Book}
use Rattle.paper_book.specs.Columns.{at}
use Rattle.law_line.specs.HeldLine.{HeldLine}

pub record PricedLine (spans count : ℕ) (limits a b profits prices : List ℕ) : Type 0 where
  pub book : Book
  pub held : HeldLine book spans count limits a b profits
  pub price_upto : (s : ℕ) → s < spans → at prices s ≤ 1000000
