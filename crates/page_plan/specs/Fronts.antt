-- What holds of columns holds of their first `count` numbers: a book, what may be printed, and the text. Assumes nothing.
use Rattle.std.specs.Prelude.{List, ◌≡◌, ℕ, ◌≤◌, length, take}
use Rattle.std.proofs.Common.{◌∙◌, arith, get_or-take, length-take-le}
use Rattle.paper_book.specs.Book.{Book, count}
use Rattle.paper_book.specs.Columns.{at, Holds}
use Rattle.page_plan.specs.Promise.{Printable}
use Rattle.page_plan.specs.Printed.{printed_plan, same_entries}

module _ {n : ℕ} (a : List ℕ) (there : n ≤ length a) where
  long : length (take n a) ≡ n
  long = length-take-le n a there

  pub fronts_hold :
      {book : Book} {limits b profits : List ℕ} → Holds book n limits a b profits → Holds book (length (take n a)) limits (take n a) (take n b) profits
  fronts_hold {b} holds =
      record {
        counted = long ∙ holds.counted;
        limit_is = holds.limit_is;
        a_is = λ i h. get_or-take n a i 0 (omega (arith, long)) ∙ holds.a_is i (omega (arith, long));
        b_is = λ i h. get_or-take n b i 0 (omega (arith, long)) ∙ holds.b_is i (omega (arith, long));
        profit_is = λ i h. holds.profit_is i (omega (arith, long));
      }

  pub fronts_printable : {b entries : List ℕ} → Printable n a b entries → Printable (length (take n a)) (take n a) (take n b) (take n entries)
  fronts_printable {b} {entries} can =
      rw long
      (record {
        a_in = record { few = can.a_in.few; below = λ i h. rw (get_or-take n a i 0 h) (can.a_in.below i h) };
        b_in = record { few = can.b_in.few; below = λ i h. rw (get_or-take n b i 0 h) (can.b_in.below i h) };
        entries_in = record { few = can.entries_in.few; upto = λ i h. rw (get_or-take n entries i 0 h) (can.entries_in.upto i h) };
      })

pub front_text :
    (book : Book) {n : ℕ} (entries : List ℕ) (earned number cut : ℕ) → n ≡ count book
    → printed_plan book (at (take n entries)) earned number cut ≡ printed_plan book (at entries) earned number cut
front_text book {n} entries earned number cut counted =
    same_entries book (at (take n entries)) (at entries) earned number cut (λ i h. get_or-take n entries i 0 (omega (arith, counted)))
