-- Which line a book is planned on, and the cut that is shown: a line's book itself and 65,535, a ring's cut line and its cut. It is always a line, with the
-- book's requests and channels. Assumes nothing.
use Rattle.std.specs.Prelude.{◌≡◌, refl, cond, ℕ, eqb}
use Rattle.std.proofs.Common.{sym, ap, subst, ⊎_elim}
use Rattle.paper_book.specs.Book.{Book, count}
use Rattle.paper_book.specs.Sound.{Sound}
use Rattle.paper_rules.specs.Cuts.{cut_line, cut, plan_line, cut_shown}
use Rattle.law_line.specs.Line.{Line}
use Rattle.law_ring.specs.Ring.{Ring}
use Rattle.law_ring.specs.CutLine.{cut_count, cut_line_lem}
use Rattle.law_ring.specs.Choice.{cut_in}

pub line_plan : (book : Book) → book.shape ≡ 1 → plan_line book ≡ book
unfolding plan_line
line_plan book e = ap (λ (s : ℕ). cond (eqb s 2) (cut_line book (cut book)) book) e

pub ring_plan : (book : Book) → book.shape ≡ 2 → plan_line book ≡ cut_line book (cut book)
unfolding plan_line
ring_plan book e = ap (λ (s : ℕ). cond (eqb s 2) (cut_line book (cut book)) book) e

pub line_shown : (book : Book) → book.shape ≡ 1 → cut_shown book ≡ 65535
unfolding cut_shown
line_shown book e = rw e

pub ring_shown : (book : Book) → book.shape ≡ 2 → cut_shown book ≡ cut book
unfolding cut_shown
ring_shown book e = rw e

-- the line on which a plan is made is a line, with the same requests and channels
pub record LineFor (book line : Book) : Type 0 where
  pub its_line : Line line
  pub counted : count line ≡ count book
  pub channelled : line.channels ≡ book.channels

pub line_for : (book : Book) → Sound book → LineFor book (plan_line book)
unfolding cut_line
line_for book sound = ⊎_elim on_line on_ring sound.shaped
  where
    on_line : book.shape ≡ 1 → LineFor book (plan_line book)
    on_line e = subst (LineFor book) (sym (line_plan book e)) (record { its_line = record { line = e; sound = sound }; counted = refl; channelled = refl })

    on_ring : book.shape ≡ 2 → LineFor book (plan_line book)
    on_ring e =
        let on : Ring book = record { ring = e; sound = sound } in
        subst (LineFor book) (sym (ring_plan book e)) (record { its_line = cut_line_lem on (cut book) (cut_in on); counted = cut_count on (cut book); channelled = refl })
