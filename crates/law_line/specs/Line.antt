-- An accepted book whose network is a line: what the statements of this crate are about. Assumes nothing.
use Rattle.std.specs.Prelude.{◌≡◌}
use Rattle.paper_book.specs.Book.{Book}
use Rattle.paper_book.specs.Sound.{Sound}

pub record Line (book : Book) : Type 0 where
  pub line : book.shape ≡ 1
  pub sound : Sound book
