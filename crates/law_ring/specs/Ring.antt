-- An accepted book whose network is a ring: what the statements of this crate are about. Assumes nothing.
use Rattle.std.specs.Prelude.{◌≡◌}
use Rattle.paper_book.specs.Book.{Book}
use Rattle.paper_book.specs.Sound.{Sound}

pub record Ring (book : Book) : Type 0 where
  pub ring : book.shape ≡ 2
  pub sound : Sound book
