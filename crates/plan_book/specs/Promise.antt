-- What the planner promises of any file, in the words of 01. Assumes nothing.
use Rattle.std.specs.Prelude.{List, ◌≡◌, ℕ, ◌<◌, replicate, Result, Ok, Err, IsOkAnd}
use Rattle.base_sums.specs.Vacant.{Vacant}
use Rattle.paper_book.specs.Book as Books
use Rattle.paper_book.specs.Book.{Book, end_a, end_b}
use Rattle.paper_book.specs.Columns.{at}
use Rattle.paper_book.specs.Sound.{Sound}
use Rattle.paper_book.specs.Reading.{Outcome, done, refused}
use Rattle.paper_rules.specs.Operations as O
use Rattle.paper_rules.specs.Operations.{plannable_in, Priced}
use Rattle.read_record.specs.declared.Refusal.{Refusal}
use Rattle.read_record.specs.Numbers.{number_of}
use Rattle.read_record.specs.Shapes.{code_of}
use Rattle.plan_book.specs.declared.BookPlan.{BookPlan}

-- what the planner's answer means: a plan's earnings, number kept and cut, or a refusal's number and place
unfoldable pub planned_of : Result BookPlan Refusal → Outcome (ℕ × ℕ × ℕ)
planned_of (Ok plan) = done (plan.earned, plan.number, plan.cut)
planned_of (Err refusal) = refused (number_of refusal.row) refusal.place

-- a plan of an accepted book: its numbers, its entries and, on a line, its prices; past the requests and the spans, and on a ring in place of prices, there
-- are only zeros
pub record PlanOf (book : Book) (r : BookPlan) : Type 0 where
  pub planned : O.Planned book (at r.entries) r.earned r.number r.cut
  pub priced : book.shape ≡ 1 → Priced book (at r.entries) (at r.prices)
  pub sound : Sound book
  pub shape_is : code_of r.shape ≡ book.shape
  pub spans_is : r.spans ≡ Books.spans book
  pub count_is : r.count ≡ Books.count book
  pub a_is : (i : ℕ) → i < Books.count book → at r.a i ≡ end_a book i
  pub b_is : (i : ℕ) → i < Books.count book → at r.b i ≡ end_b book i
  pub a_end : Vacant 0 (Books.count book) 256 r.a
  pub b_end : Vacant 0 (Books.count book) 256 r.b
  pub entries_end : Vacant 0 (Books.count book) 256 r.entries
  pub line_prices_end : book.shape ≡ 1 → Vacant 0 (Books.spans book) 64 r.prices
  pub ring_prices : book.shape ≡ 2 → r.prices ≡ replicate 64 0

-- the book's refusals and then 12, or a plan
pub record BookPlanned (file : List ℕ) (entryRoom priceRoom : ℕ) (r : Result BookPlan Refusal) : Type 0 where
  pub refusal : (n p : ℕ) → plannable_in file entryRoom priceRoom ≡ refused n p → planned_of r ≡ refused n p
  pub plan : (book : Book) → plannable_in file entryRoom priceRoom ≡ done book → IsOkAnd r (PlanOf book)
