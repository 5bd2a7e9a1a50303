-- A plan's text from columns of numbers is the book's own text, whatever book the columns hold: each request's line is made of the same numbers.
-- Assumes nothing.
use Rattle.std.specs.Prelude.{List, ◌++◌, ◌≡◌, ℕ, ◌/◌, ◌%◌, ◌<◌, eqb}
use Rattle.paper_book.specs.Book.{Book}
use Rattle.paper_book.specs.Columns.{at, Holds}
use Rattle.paper_rules.specs.Plans.{way, channel}
use Rattle.page_plan.specs.Printed.{first_line, request_line, lines, lines_ext, printed_request, printed_plan}

-- request i's line
abbrev pub line_at : List ℕ → List ℕ → List ℕ → ℕ → List ℕ
line_at a b entries i = request_line i (at a i) (at b i) (at entries i / 256) (at entries i % 256)

pub same_text :
    (book : Book) (shape count earned number cut : ℕ) (limits a b profits entries : List ℕ)
    → book.shape ≡ shape → Holds book count limits a b profits
    → first_line (eqb shape 1) earned number cut ++ lines count (line_at a b entries) ≡ printed_plan book (at entries) earned number cut
unfolding printed_plan printed_request way channel
same_text book shape count earned number cut limits a b profits entries s h =
    rw (← s, ← h.counted, lines_ext count (line_at a b entries) (printed_request book (at entries)) each_line)
  where
    each_line : (i : ℕ) → i < count → line_at a b entries i ≡ printed_request book (at entries) i
    each_line i l = rw (h.a_is i l, h.b_is i l)
