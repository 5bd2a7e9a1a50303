-- The planner on an accepted book: a line's plan is the line planner's and a ring's is the ring planner's, and each is a plan as the operations have it.
-- Assumes nothing.
use Rattle.std.specs.Prelude.{Bool, true, false, List, ◌≡◌, refl, ℕ, replicate, length, take, ◌≤◌, Result, Ok, Err, IsOkAnd}
use Rattle.std.proofs.Common.{◌∙◌, arith, length-take-le}
use Rattle.std.proofs.Math.Path.{sym, ap, subst}
use Rattle.base_sums.specs.Each.{decided}
use Rattle.base_sums.specs.Vacant.{Vacant}
use Rattle.base_columns.specs.declared.Columns.{Columns}
use Rattle.paper_book.specs.Book as Books
use Rattle.paper_book.specs.Book.{Book, spans_of}
use Rattle.paper_book.specs.Refusals.{short_of}
use Rattle.paper_book.specs.Columns.{at, Holds}
use Rattle.paper_book.specs.Sound.{spans_small}
use Rattle.paper_book.specs.Reading.{done, refused, and_then, refused_not_done}
use Rattle.paper_rules.specs.Operations as O
use Rattle.paper_rules.specs.Operations.{places_short, plannable_in, Priced}
use Rattle.law_ring.specs.Ring.{Ring}
use Rattle.law_ring.specs.CutLine.{ring_spans}
use Rattle.law_ring.specs.PlanLine.{line_plan, ring_plan, line_shown, ring_shown}
use Rattle.read_record.specs.declared.Network.{Network}
use Rattle.read_record.specs.declared.Refusal.{Refusal}
use Rattle.read_record.specs.declared.Request.{Request}
use Rattle.read_record.specs.declared.shape.Shape.TheVariants as Shape
use Rattle.read_record.specs.Numbers.{number_of}
use Rattle.read_record.specs.Shapes.{code_of}
use Rattle.read_book.specs.declared.Taken.{Taken}
use Rattle.read_book.specs.Says.{Reads, book_from}
use Rattle.read_book.specs.Accepted.{refused_read, made_count}
use Rattle.work_columns.specs.declared.RequestColumns.{RequestColumns}
use Rattle.work_columns.specs.Columned.{Columned}
use Rattle.work_columns.specs.Seam.{HeldBook, HeldColumns, accepted, held_columns, made_holds}
use Rattle.plan_line.specs.declared.LinePlan.{LinePlan}
use Rattle.plan_line.specs.Promise.{PlannableLine, LinePlanned}
use Rattle.plan_ring.specs.declared.RingPlan.{RingPlan}
use Rattle.plan_ring.specs.Promise.{PlannableRing, RingPlanned}
use Rattle.plan_book.specs.declared.BookPlan.{BookPlan}
use Rattle.plan_book.specs.declared.Found.{Found}
use Rattle.plan_book.specs.Promise.{planned_of, PlanOf, BookPlanned}

-- what is found is a plan of the book, and stands in lists that hold nothing else
pub record Finds (book : Book) (found : Found) : Type 0 where
  pub planned : O.Planned book (at found.entries) found.earned found.number found.cut
  pub priced : book.shape ≡ 1 → Priced book (at found.entries) (at found.prices)
  pub entries_end : Vacant 0 (Books.count book) 256 found.entries
  pub line_prices_end : book.shape ≡ 1 → Vacant 0 (Books.spans book) 64 found.prices
  pub ring_prices : book.shape ≡ 2 → found.prices ≡ replicate 64 0

-- what was found, beside the book's own numbers
abbrev pub beside : Network → (spansN count : ℕ) → RequestColumns → Found → BookPlan
beside net spansN count cols found =
    record {
      earned = found.earned;
      number = found.number;
      cut = found.cut;
      shape = net.shape;
      spans = spansN;
      count = count;
      a = cols.a;
      b = cols.b;
      entries = found.entries;
      prices = found.prices;
    }

module _ {book : Book} {net : Network} {c : Columns} (held : HeldColumns book net c) where
  -- a held book of the line's shape is a line, and one of the ring's a ring
  line_is : net.shape ≡ Shape.Line → book.shape ≡ 1
  line_is e = held.shape_is ∙ ap code_of e

  ring_is : net.shape ≡ Shape.Ring → book.shape ≡ 2
  ring_is e = held.shape_is ∙ ap code_of e

  abbrev pub held_line : net.shape ≡ Shape.Line → PlannableLine net.channels c
  held_line e =
      record {
        columns = record { book = book; held = record { line = record { line = held.shape_is ∙ ap code_of e; sound = held.sound }; spans_is = held.spans_is; holds = held.holds } };
        channels_is = sym held.channels_is;
      }

  abbrev pub held_ring : net.shape ≡ Shape.Ring → PlannableRing net.channels c
  held_ring e =
      let on : Ring book = record { ring = held.shape_is ∙ ap code_of e; sound = held.sound } in
      record {
        columns = record { book = book; ring = on; nodes_is = held.spans_is ∙ ring_spans on; holds = held.holds };
        channels_is = sym held.channels_is;
      }

  -- what the planner of its shape answers is the plan of the book
  pub on_line :
      (e : net.shape ≡ Shape.Line) {plan : LinePlan} → LinePlanned book plan
      → Finds book (record { earned = plan.earned; number = plan.number; cut = 65535; entries = plan.entries; prices = plan.prices })
  on_line e made =
      let line = line_is e in
      record {
        planned = record {
          fair = made.best_plan.fair;
          best_there = rw (line_plan book line) made.best_plan;
          channels = rw (line_plan book line) made.by_rule;
          earned_is = made.earned_is;
          number_is = made.number_is;
          cut_is = sym (line_shown book line);
        };
        priced = λ l. made.priced;
        entries_end = made.entries_end;
        line_prices_end = λ l. made.prices_end;
        ring_prices = λ l. absurd (omega (arith, line));
      }

  pub on_ring :
      (e : net.shape ≡ Shape.Ring) {plan : RingPlan} → RingPlanned book plan
      → Finds book (record { earned = plan.earned; number = plan.number; cut = plan.cut; entries = plan.entries; prices = replicate 64 0 })
  on_ring e made =
      let ring = ring_is e in
      record {
        planned = record {
          fair = made.fair;
          best_there = rw (ring_plan book ring) made.best_plan;
          channels = rw (ring_plan book ring) made.by_rule;
          earned_is = made.earned_is;
          number_is = made.number_is;
          cut_is = made.cut_is ∙ sym (ring_shown book ring);
        };
        priced = λ l. absurd (omega (arith, ring));
        entries_end = made.entries_end;
        line_prices_end = λ l. absurd (omega (arith, ring));
        ring_prices = λ l. refl;
      }

  -- beside the columns of the requests it is a plan of the book
  pub plan_of :
      {requests : List Request} {limits : List ℕ} {n spansN : ℕ} {cols : RequestColumns} {found : Found} → Columned requests n cols → Holds book n limits cols.a cols.b cols.profit
      → spansN ≡ spans_of (code_of net.shape) net.nodes → Finds book found → PlanOf book (beside net spansN n cols found)
  unfolding Books.spans
  plan_of {n} {cols} made holds spans_is finds =
      record {
        planned = finds.planned;
        priced = finds.priced;
        sound = held.sound;
        shape_is = sym held.shape_is;
        spans_is = spans_is ∙ rw (held.shape_is, held.nodes_is) refl;
        count_is = holds.counted;
        a_is = λ i h. holds.a_is i (omega (arith, holds.counted));
        b_is = λ i h. holds.b_is i (omega (arith, holds.counted));
        a_end = subst (λ (m : ℕ). Vacant 0 m 256 cols.a) holds.counted made.a_end;
        b_end = subst (λ (m : ℕ). Vacant 0 m 256 cols.b) holds.counted made.b_end;
        entries_end = finds.entries_end;
        line_prices_end = finds.line_prices_end;
        ring_prices = finds.ring_prices;
      }

-- the test of 12 on the numbers that hold the book
pub short_is :
    {net : Network} {n spansN : ℕ} {limits a b profits : List ℕ} {t : Bool} (entryRoom priceRoom : ℕ) (held : HeldBook net n limits a b profits) → spansN ≡ spans_of (code_of net.shape) net.nodes
    → t ≡ short_of (code_of net.shape) spansN n entryRoom priceRoom → places_short held.book entryRoom priceRoom ≡ t
unfolding places_short Books.spans Books.count
short_is entryRoom priceRoom held s e = rw (held.shape_is, held.nodes_is, ← held.holds.counted, e, s) refl

-- ---- any file

pub refused_by :
    {file : List ℕ} {entryRoom priceRoom number place : ℕ} {r : Result BookPlan Refusal} → plannable_in file entryRoom priceRoom ≡ refused number place
    → planned_of r ≡ refused number place → BookPlanned file entryRoom priceRoom r
refused_by {number} {place} is says =
    record {
      refusal = λ n p e. let both = sym is ∙ e in let same_number : number ≡ n = cc in let same_place : place ≡ p = cc in rw (← same_number, ← same_place) says;
      plan = λ book e. absurd (refused_not_done (sym is ∙ e));
    }

pub planned_by :
    {file : List ℕ} {entryRoom priceRoom : ℕ} {book : Book} {r : Result BookPlan Refusal} → plannable_in file entryRoom priceRoom ≡ done book → IsOkAnd r (PlanOf book) → BookPlanned file entryRoom priceRoom r
planned_by {book} {r} is plan =
    record {
      refusal = λ n p e. absurd (refused_not_done (sym e ∙ is));
      plan = λ other e. let same : book ≡ other = cc in rw same at plan;
    }

-- a file that is not read is refused as the reader says
pub unread :
    {file : List ℕ} {read : Result Taken Refusal} {refusal : Refusal} (entryRoom priceRoom : ℕ) → Reads file read → read ≡ Err refusal
    → BookPlanned file entryRoom priceRoom (Err refusal)
unfolding plannable_in and_then planned_of
unread entryRoom priceRoom reads e = refused_by (rw (refused_read reads e) refl) refl

-- the test of 12 on the numbers that the reader hands on
module _ {file : List ℕ} {read : Result Taken Refusal} {taken : Taken} (entryRoom priceRoom : ℕ) (reads : Reads file read) (e : read ≡ Ok taken) where
  abbrev pub book : Book
  book = book_from taken.network taken.limits taken.count taken.requests

  tested :
      {spansN : ℕ} {t : Bool} → spansN ≡ spans_of (code_of taken.network.shape) taken.network.nodes
      → t ≡ short_of (code_of taken.network.shape) spansN taken.count entryRoom priceRoom → places_short book entryRoom priceRoom ≡ t
  unfolding places_short Books.spans Books.count book_from
  tested s is = rw (← (made_count taken.network taken.limits taken.count taken.requests (accepted reads e).0.can.there)) (rw (is, s) refl)

  pub too_few :
      {spansN : ℕ} → spansN ≡ spans_of (code_of taken.network.shape) taken.network.nodes
      → true ≡ short_of (code_of taken.network.shape) spansN taken.count entryRoom priceRoom → plannable_in file entryRoom priceRoom ≡ refused 12 0
  unfolding plannable_in and_then
  too_few s is = rw ((accepted reads e).1, tested s is) refl

  pub enough :
      {spansN : ℕ} → spansN ≡ spans_of (code_of taken.network.shape) taken.network.nodes
      → false ≡ short_of (code_of taken.network.shape) spansN taken.count entryRoom priceRoom → plannable_in file entryRoom priceRoom ≡ done book
  unfolding plannable_in and_then
  enough s is = rw ((accepted reads e).1, tested s is) refl

  pub few_spans : spans_of (code_of taken.network.shape) taken.network.nodes ≤ 64
  unfolding book_from
  few_spans = omega (arith, spans_small (code_of taken.network.shape) taken.network.nodes, (accepted reads e).0.sound.nodes_upto)

  -- the columns that are handed back hold the book
  pub own_columns : {cols : RequestColumns} → Columned taken.requests taken.count cols → Holds book taken.count taken.limits cols.a cols.b cols.profit
  own_columns made = made_holds taken.network taken.limits taken.count taken.requests (accepted reads e).0.can.there made

  -- and so do the ones that are lent
  module _ {spansN : ℕ} {cols : RequestColumns} {c : Columns} (s : spansN ≡ spans_of (code_of taken.network.shape) taken.network.nodes) (made : Columned taken.requests taken.count cols) where
    pub lent_columns :
        c.limits.now ≡ take spansN taken.limits → (c.a.now ≡ take taken.count cols.a) × (c.b.now ≡ take taken.count cols.b) → c.profit.now ≡ take taken.count cols.profit
        → HeldColumns book taken.network c
    lent_columns l ends p =
        let few = few_spans in
        let long : length c.limits.now ≡ spansN = rw l (length-take-le spansN taken.limits (omega (arith, s, few, (reads.whole taken e).no_more_limits.long))) in
        held_columns (accepted reads e).0 made (l ∙ ap (λ (n : ℕ). take n taken.limits) s) (long ∙ s) ends p
