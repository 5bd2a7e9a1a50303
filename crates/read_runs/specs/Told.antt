-- Whether a reading comes to a refusal of this number at this place, or to a book. Assumes nothing.
use Rattle.std.specs.Prelude.{Bool, true, false, ◌&&◌, ℕ, eqb}
use Rattle.paper_book.specs.Book.{Book}
use Rattle.paper_book.specs.Reading.{Outcome, done, refused}

unfoldable pub is_refused : Outcome Book → ℕ → ℕ → Bool
is_refused (done book) n p = false
is_refused (refused number place) n p = eqb number n && eqb place p

unfoldable pub is_done : Outcome Book → Bool
is_done (done book) = true
is_done (refused number place) = false
