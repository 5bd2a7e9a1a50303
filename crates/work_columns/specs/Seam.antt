-- The seam between the reader and what works on its book: where the reader accepts a file, its reading is a sound book, whose requests are lent as
-- one list; the limits, and the columns made of that list, hold the book. Assumes nothing.
use Rattle.std.specs.Prelude.{◌≡◌, refl, Result, Ok, List, ℕ, ◌≤◌, ◌<◌, length, take}
use Rattle.std.proofs.Math.Path.{ap}
use Rattle.std.proofs.Common.{◌∙◌, arith, get_or-take, length-take-le}
use Rattle.base_sums.specs.Vacant.{Vacant}
use Rattle.paper_book.specs.Book as Books
use Rattle.paper_book.specs.Book.{Book, end_a, end_b, profit}
use Rattle.paper_book.specs.Reading.{done, reading}
use Rattle.paper_book.specs.Sound.{Sound, sound}
use Rattle.paper_book.specs.Columns.{Holds}
use Rattle.read_record.specs.declared.Network.{Network}
use Rattle.read_record.specs.declared.Refusal.{Refusal}
use Rattle.read_record.specs.Shapes.{code_of}
use Rattle.read_record.specs.declared.Request.{Request}
use Rattle.read_book.specs.declared.Taken.{Taken}
use Rattle.read_book.specs.Says.{book_from, Reads}
use Rattle.read_book.specs.Accepted.{accepted_read, made_count, made_limit, made_request}
use Rattle.base_columns.specs.declared.Columns.{Columns}
use Rattle.work_columns.specs.declared.RequestColumns.{RequestColumns}
use Rattle.work_columns.specs.Columned.{Columned, CanColumn}

-- an accepted book, with the numbers that hold it; past the count the ends are 0
pub record HeldBook (net : Network) (count : ℕ) (limits a b profits : List ℕ) : Type 0 where
  pub book : Book
  pub sound : Sound book
  pub shape_is : book.shape ≡ code_of net.shape
  pub nodes_is : book.nodes ≡ net.nodes
  pub channels_is : book.channels ≡ net.channels
  pub holds : Holds book count limits a b profits
  pub a_end : Vacant 0 count 256 a
  pub b_end : Vacant 0 count 256 b

module _ (net : Network) (limits : List ℕ) (count : ℕ) (requests : List Request) where
  pub made_holds :
      {cols : RequestColumns} → count ≤ length requests → Columned requests count cols
      → Holds (book_from net limits count requests) count limits cols.a cols.b cols.profit
  unfolding end_a end_b profit
  made_holds l made = record {
    counted = made_count net limits count requests l;
    limit_is = made_limit net limits count requests;
    a_is = λ i h. made.a_is.is i h ∙ ap (λ (q : Books.Request). q.a) (made_request net limits count requests i h);
    b_is = λ i h. made.b_is.is i h ∙ ap (λ (q : Books.Request). q.b) (made_request net limits count requests i h);
    profit_is = λ i h. made.profit_is.is i h ∙ ap (λ (q : Books.Request). q.profit) (made_request net limits count requests i h);
  }

-- an accepted book whose requests are lent
pub record LentBook (net : Network) (limits : List ℕ) (requests : List Request) (count : ℕ) : Type 0 where
  pub can : CanColumn requests count
  pub sound : Sound (book_from net limits count requests)

-- the limits, and the columns that are made of the lent requests, hold that book
unfoldable pub lent_held :
    {net : Network} {limits : List ℕ} {requests : List Request} {count : ℕ} {cols : RequestColumns}
    → LentBook net limits requests count → Columned requests count cols → HeldBook net count limits cols.a cols.b cols.profit
unfolding book_from end_a end_b profit
lent_held {net} {limits} {requests} {count} lent made = record {
  book = book_from net limits count requests;
  sound = lent.sound;
  shape_is = refl;
  nodes_is = refl;
  channels_is = refl;
  holds = record {
    counted = made_count net limits count requests lent.can.there;
    limit_is = made_limit net limits count requests;
    a_is = λ i h. made.a_is.is i h ∙ ap (λ (q : Books.Request). q.a) (made_request net limits count requests i h);
    b_is = λ i h. made.b_is.is i h ∙ ap (λ (q : Books.Request). q.b) (made_request net limits count requests i h);
    profit_is = λ i h. made.profit_is.is i h ∙ ap (λ (q : Books.Request). q.profit) (made_request net limits count requests i h);
  };
  a_end = made.a_end;
  b_end = made.b_end;
}

-- an accepted book, with the lent columns that hold it
pub record HeldColumns (book : Book) (net : Network) (c : Columns) : Type 0 where
  pub sound : Sound book
  pub shape_is : book.shape ≡ code_of net.shape
  pub nodes_is : book.nodes ≡ net.nodes
  pub channels_is : book.channels ≡ net.channels
  pub spans_is : length c.limits.now ≡ Books.spans book
  pub holds : Holds book (length c.a.now) c.limits.now c.a.now c.b.now c.profit.now

-- the first limits, one a span, and the columns of the lent requests hold that book
module _ {net : Network} {limits : List ℕ} {requests : List Request} {count : ℕ} {cols : RequestColumns} {c : Columns} (lent : LentBook net limits requests count) (made : Columned requests count cols) where
  pub held_columns :
      c.limits.now ≡ take (Books.spans_of (code_of net.shape) net.nodes) limits → length c.limits.now ≡ Books.spans_of (code_of net.shape) net.nodes
      → (c.a.now ≡ take count cols.a) × (c.b.now ≡ take count cols.b) → c.profit.now ≡ take count cols.profit
      → HeldColumns (book_from net limits count requests) net c
  unfolding book_from end_a end_b profit Books.spans
  held_columns l_is l_long ends p_is =
      let long : length c.a.now ≡ count = rw ends.0 (length-take-le count cols.a (omega (arith, lent.can.few, made.a_end.long))) in
      record {
        sound = lent.sound;
        shape_is = refl;
        nodes_is = refl;
        channels_is = refl;
        spans_is = l_long;
        holds = record {
          counted = long ∙ made_count net limits count requests lent.can.there;
          limit_is = λ s k. rw l_is (get_or-take _ limits s 0 k ∙ made_limit net limits count requests s k);
          a_is = λ i k. let h : i < count = omega (arith, long) in rw ends.0 (get_or-take count cols.a i 0 h ∙ (made.a_is.is i h ∙ ap (λ (q : Books.Request). q.a) (made_request net limits count requests i h)));
          b_is = λ i k. let h : i < count = omega (arith, long) in rw ends.1 (get_or-take count cols.b i 0 h ∙ (made.b_is.is i h ∙ ap (λ (q : Books.Request). q.b) (made_request net limits count requests i h)));
          profit_is = λ i k. let h : i < count = omega (arith, long) in rw p_is (get_or-take count cols.profit i 0 h ∙ (made.profit_is.is i h ∙ ap (λ (q : Books.Request). q.profit) (made_request net limits count requests i h)));
        };
      }

pub accepted :
    {file : List ℕ} {read : Result Taken Refusal} {taken : Taken} → Reads file read → read ≡ Ok taken
    → LentBook taken.network taken.limits taken.requests taken.count × (reading file ≡ done (book_from taken.network taken.limits taken.count taken.requests))
accepted {file} {read} {taken} reads e =
    let whole = reads.whole taken e in
    let says = accepted_read reads e in
    (record { can = record { few = omega (arith, whole.counted); there = omega (arith, whole.counted, whole.no_more_requests.long) }; sound = sound file _ says }, says)
