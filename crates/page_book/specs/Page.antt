-- What the printing program writes: the text of the reading's refusal, or of a plan that the planner hands back. Lists of 256 and 64 places are long enough
-- for every book, so 12 is never printed. Assumes nothing.
use Rattle.std.specs.Prelude.{Result, Ok, Err, Option, Some, None, MatchOption, Bool, false, cond, List, ◌≡◌, refl, ℕ, ◌≤◌, length, take, drop}
use Rattle.std.proofs.Common.{sym, ap, ◌∙◌, arith, length-take}
use Rattle.base_sums.specs.Table.{table}
use Rattle.paper_book.specs.Book as Books
use Rattle.paper_book.specs.Book.{Book, profit}
use Rattle.paper_book.specs.Columns.{at}
use Rattle.paper_book.specs.Reading.{Outcome, done, refused, and_then, reading, refused_not_done}
use Rattle.paper_book.specs.InWords.{long_lists}
use Rattle.paper_book.specs.Sound.{Sound, sound, few_spans}
use Rattle.paper_rules.specs.Plans.{Plan}
use Rattle.paper_rules.specs.Operations as O
use Rattle.paper_rules.specs.Operations.{places_short, plannable_in}
use Rattle.page_text.specs.Put.{Put, put_front}
use Rattle.page_plan.specs.Printed.{printed_refusal, printed_plan}
use Rattle.page_plan.specs.Promise.{PrintsRefusal, PrintsPlan, Printable}
use Rattle.page_plan.specs.Fair.{fair_printable}
use Rattle.page_plan.specs.Fronts.{fronts_hold, front_text}
use Rattle.read_record.specs.declared.Refusal.{Refusal}
use Rattle.read_record.specs.declared.shape.Shape.TheVariants.{Line, Ring}
use Rattle.read_record.specs.Numbers.{number_of}
use Rattle.read_record.specs.Shapes.{code_of}
use Rattle.plan_book.specs.declared.BookPlan.{BookPlan}
use Rattle.plan_book.specs.Promise.{PlanOf, BookPlanned}
use Rattle.plan_book.specs.Cases.{is_refused, is_planned, plan_holds}

-- a plan that the planner could hand back, as text
pub record PlanPage (book : Book) (out : List ℕ) (r : ℕ) : Type 0 where
  pub plan : Plan
  pub earned : ℕ
  pub number : ℕ
  pub cut : ℕ
  pub planned : O.Planned book plan earned number cut
  pub text : take r out ≡ printed_plan book plan earned number cut

-- the page is the first r bytes of the buffer, and every later byte is what it was
pub record Paged (file before out : List ℕ) (r : ℕ) : Type 0 where
  pub fits : r ≤ 4096
  pub inside : r ≤ length out
  pub later : drop r out ≡ drop r before
  pub refusal : (n p : ℕ) → reading file ≡ refused n p → take r out ≡ printed_refusal n p
  pub plan : (book : Book) → reading file ≡ done book → PlanPage book out r

-- ---- the lists are long enough

never_short : (book : Book) → Sound book → places_short book 256 64 ≡ false
unfolding places_short
never_short book s = long_lists.1 (s.count_upto, λ line. few_spans s)

plannable_is : (file : List ℕ) → plannable_in file 256 64 ≡ reading file
unfolding plannable_in and_then
plannable_is file = go (reading file) refl
  where
    go : (o : Outcome Book) → reading file ≡ o → and_then o (λ book. cond (places_short book 256 64) (refused 12 0) (done book)) ≡ o
    go (done book) e = ap (λ (t : Bool). cond t (refused 12 0) (done book)) (never_short book (sound file book e))
    go (refused n p) e = refl

-- a text at the front of a buffer lies inside it
put_inside : {before after text : List ℕ} {next : ℕ} → Put before after 0 text next → next ≤ length after
put_inside {after} {next} p = omega (arith, length-take next after, ap length (put_front p), p.ends)

-- ---- the two ways out

module _ {file : List ℕ} {r : Result BookPlan Refusal} (b : BookPlanned file 256 64 r) where
  pub page_refused :
      {refusal : Refusal} {number : ℕ} {before after : List ℕ} {k : ℕ} → r ≡ Err refusal → number ≡ number_of refusal.row
      → PrintsRefusal number refusal.place before after k → Paged file before after k
  page_refused {refusal} {number} {before} {after} {k} e is_number prints =
      record {
        fits = prints.fits;
        inside = put_inside prints.text;
        later = prints.text.beyond;
        refusal = λ n p h. let is = read in let same : number ≡ n = cc in let place : refusal.place ≡ p = cc in rw (← same, ← place) (put_front prints.text);
        plan = λ book h. absurd (refused_not_done (sym read ∙ h));
      }
    where
      read : reading file ≡ refused number refusal.place
      read = sym (plannable_is file) ∙ (is_refused b e ∙ ap (λ (n : ℕ). refused n refusal.place) (sym is_number))

  module _ {plan : BookPlan} (e : r ≡ Ok plan) where
    -- the book that was read, and its plan
    abbrev book : Book
    book = (is_planned b e).0

    read : reading file ≡ done book
    read = sym (plannable_is file) ∙ (is_planned b e).1

    ours : PlanOf book plan
    ours = (is_planned b e).2

    pub page_printable : Printable plan.count plan.a plan.b plan.entries
    page_printable = fair_printable ours.sound (plan_holds ours) ours.planned.fair

    few : plan.count ≤ length plan.a
    few = omega (arith, page_printable.a_in.few, ours.a_end.long)

    -- the printing of the plan's first numbers, one for each request
    abbrev Prints : ℕ → ℕ → List ℕ → List ℕ → ℕ → Type 0
    Prints shape cut =
        PrintsPlan shape (length (take plan.count plan.a)) plan.earned plan.number cut (take plan.count plan.a) (take plan.count plan.b) (take plan.count plan.entries)

    page_planned : {shape : ℕ} {before after : List ℕ} {k : ℕ} → shape ≡ code_of plan.shape → Prints shape plan.cut before after k → Paged file before after k
    page_planned {shape} {before} {after} {k} code prints =
        record {
          fits = prints.fits;
          inside = put_inside text;
          later = text.beyond;
          refusal = λ n p h. absurd (refused_not_done (sym h ∙ read));
          plan = λ other h. let is = read in let same : book ≡ other = cc in rw same at shown;
        }
      where
        profits : List ℕ
        profits = table (Books.count book) (profit book)

        text : Put before after 0 (printed_plan book (at plan.entries) plan.earned plan.number plan.cut) k
        text =
            rw (front_text book plan.entries plan.earned plan.number plan.cut ours.count_is)
            at (prints.text book book.limits profits (sym (code ∙ ours.shape_is)) (fronts_hold plan.a few (plan_holds ours)))

        shown : PlanPage book after k
        shown = record { plan = at plan.entries; earned = plan.earned; number = plan.number; cut = plan.cut; planned = ours.planned; text = put_front text }

    -- a line's plan is printed without its cut, and a ring's with it
    module _ {cut : Option ℕ} {before after : List ℕ} {k : ℕ} (prints : MatchOption cut ((c : ℕ) → Prints 1 c before after k) (λ c. (shape : ℕ) → (shape ≡ 1 → ⊥) → Prints shape c before after k)) where
      pub page_line : plan.shape ≡ Line → cut ≡ None → Paged file before after k
      page_line e none = page_planned (sym (ap code_of e)) ((rw none at prints) plan.cut)

      pub page_ring : plan.shape ≡ Ring → cut ≡ Some plan.cut → Paged file before after k
      page_ring e some = page_planned (sym (ap code_of e)) ((rw some at prints) 2 (λ z. omega arith))
