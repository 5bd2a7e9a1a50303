-- What a user of the planner concludes from its answer: a refusal is the one that the operations name, and a plan is a plan of the book in the file, whose
-- requests stand in the columns handed back. Assumes nothing.
use Rattle.std.specs.Prelude.{false, cond, List, ◌⊎◌, ◌≡◌, refl, ℕ, Result, Ok, Err, IsOkAnd}
use Rattle.std.proofs.Common.{inl, inr, ⊎_elim, sym, ap, ap₂, ◌∙◌, arith}
use Rattle.base_sums.specs.Each.{decided}
use Rattle.base_sums.specs.Table.{table, table_at}
use Rattle.paper_book.specs.Book.{Book, count, limit, profit}
use Rattle.paper_book.specs.Columns.{at, Holds}
use Rattle.paper_book.specs.Reading.{Outcome, done, refused, and_then, reading, refused_not_done}
use Rattle.paper_rules.specs.Operations as O
use Rattle.paper_rules.specs.Operations.{places_short, plannable_in}
use Rattle.read_record.specs.declared.Refusal.{Refusal}
use Rattle.read_record.specs.declared.Row.{Row}
use Rattle.read_record.specs.declared.shape.Shape.{Shape}
use Rattle.read_record.specs.Numbers.{number_of, same_row}
use Rattle.plan_book.specs.declared.BookPlan.{BookPlan}
use Rattle.plan_book.specs.Promise.{planned_of, PlanOf, BookPlanned}

-- two plans whose parts are the same are the same
pub parts_same :
    {r other : BookPlan} → r.earned ≡ other.earned → r.number ≡ other.number → r.cut ≡ other.cut → r.shape ≡ other.shape → r.spans ≡ other.spans → r.count ≡ other.count
    → r.a ≡ other.a → r.b ≡ other.b → r.entries ≡ other.entries → r.prices ≡ other.prices → r ≡ other
parts_same {r} {other} earned number cut shape spans count a b entries prices =
    let all : ◌≡◌ {A = BookPlan} (record { earned = r.earned; number = r.number; cut = r.cut; shape = r.shape; spans = r.spans; count = r.count; a = r.a; b = r.b; entries = r.entries; prices = r.prices }) other =
    rw (earned, number, cut, shape, spans, count, a, b, entries, prices) refl in
    all

-- so are two refusals by the same number and place
pub refused_once : {n p : ℕ} {r other : Result BookPlan Refusal} → planned_of r ≡ refused n p → planned_of other ≡ refused n p → r ≡ other
unfolding planned_of
refused_once {r = Ok plan} x y = absurd (refused_not_done (sym x))
refused_once {r = Err refusal} {other = Ok plan} x y = absurd (refused_not_done (sym y))
refused_once {r = Err refusal} {other = Err told} x y =
    let said = x ∙ sym y in
    let number : number_of refusal.row ≡ number_of told.row = cc in
    let place : refusal.place ≡ told.place = cc in
    ap₂ (λ (row : Row) (place : ℕ). Err (record { row = row; place = place })) (same_row _ _ number) place

pub is_refused :
    {file : List ℕ} {entryRoom priceRoom : ℕ} {r : Result BookPlan Refusal} {refusal : Refusal} → BookPlanned file entryRoom priceRoom r → r ≡ Err refusal
    → plannable_in file entryRoom priceRoom ≡ refused (number_of refusal.row) refusal.place
unfolding planned_of
is_refused {file} {entryRoom} {priceRoom} {refusal} planned says = go (plannable_in file entryRoom priceRoom) refl
  where
    go : (o : Outcome Book) → plannable_in file entryRoom priceRoom ≡ o → plannable_in file entryRoom priceRoom ≡ refused (number_of refusal.row) refusal.place
    go (done book) is = absurd (rw says at planned.plan book is)
    go (refused n p) is =
        let both = sym (planned.refusal n p is) ∙ ap planned_of says in
        let number : n ≡ number_of refusal.row = cc in
        let place : p ≡ refusal.place = cc in
        rw (number, place) at is

-- a plan is that of the book in the file
pub is_planned :
    {file : List ℕ} {entryRoom priceRoom : ℕ} {r : Result BookPlan Refusal} {made : BookPlan} → BookPlanned file entryRoom priceRoom r → r ≡ Ok made
    → (book : Book) × (plannable_in file entryRoom priceRoom ≡ done book) × PlanOf book made
unfolding planned_of
is_planned {file} {entryRoom} {priceRoom} {made} planned says = go (plannable_in file entryRoom priceRoom) refl
  where
    go : (o : Outcome Book) → plannable_in file entryRoom priceRoom ≡ o → (book : Book) × (plannable_in file entryRoom priceRoom ≡ done book) × PlanOf book made
    go (done book) is = (book, is, rw says at planned.plan book is)
    go (refused n p) is = absurd (refused_not_done (sym (planned.refusal n p is) ∙ ap planned_of says))

-- and it is one at the numbers answered
pub plan_answered :
    {book : Book} {r : BookPlan} {earned number cut : ℕ} → PlanOf book r → planned_of (Ok r) ≡ done (earned, number, cut) → O.Planned book (at r.entries) earned number cut
unfolding planned_of
plan_answered {r} {earned} {number} {cut} plan says =
    let same : ◌≡◌ {A = ℕ × ℕ × ℕ} (r.earned, r.number, r.cut) (earned, number, cut) = cc in
    let e : r.earned ≡ earned = ap (λ (t : ℕ × ℕ × ℕ). t.0) same in
    let n : r.number ≡ number = ap (λ (t : ℕ × ℕ × ℕ). t.1) same in
    let c : r.cut ≡ cut = ap (λ (t : ℕ × ℕ × ℕ). t.2) same in
    rw (e, n, c) at plan.planned

-- ---- what comes before a plan: a book that can be planned is the one that was read, and the lists are not short for it

pub plannable_read :
    (file : List ℕ) (entryRoom priceRoom : ℕ) (book : Book) → plannable_in file entryRoom priceRoom ≡ done book
    → (reading file ≡ done book) × (places_short book entryRoom priceRoom ≡ false)
unfolding plannable_in and_then
plannable_read file entryRoom priceRoom book = by (reading file)
  where
    by :
        (o : Outcome Book) → and_then o (λ made. cond (places_short made entryRoom priceRoom) (refused 12 0) (done made)) ≡ done book
        → (o ≡ done book) × (places_short book entryRoom priceRoom ≡ false)
    by (refused n p) same = absurd (refused_not_done same)
    by (done made) same =
        ⊎_elim (λ t. absurd (refused_not_done (rw t at same))) (λ t. long t (rw t at same)) (decided (places_short made entryRoom priceRoom))
      where
        long : places_short made entryRoom priceRoom ≡ false → done made ≡ done book → (done made ≡ done book) × (places_short book entryRoom priceRoom ≡ false)
        long t e = let same_book : made ≡ book = cc in (e, rw same_book at t)

-- else it is the reading's refusal, or 12
pub plannable_refused :
    (file : List ℕ) (entryRoom priceRoom number place : ℕ) → plannable_in file entryRoom priceRoom ≡ refused number place
    → (reading file ≡ refused number place) ⊎ ((number ≡ 12) × (place ≡ 0))
unfolding plannable_in and_then
plannable_refused file entryRoom priceRoom number place = by (reading file)
  where
    by :
        (o : Outcome Book) → and_then o (λ made. cond (places_short made entryRoom priceRoom) (refused 12 0) (done made)) ≡ refused number place
        → (o ≡ refused number place) ⊎ ((number ≡ 12) × (place ≡ 0))
    by (refused n p) same = inl same
    by (done made) same =
        ⊎_elim (λ t. inr (twelve (rw t at same))) (λ t. absurd (refused_not_done (sym (rw t at same)))) (decided (places_short made entryRoom priceRoom))
      where
        twelve : ◌≡◌ {A = Outcome Book} (refused 12 0) (refused number place) → (number ≡ 12) × (place ≡ 0)
        twelve e = (cc, cc)

-- ---- the columns

pub plan_holds : {book : Book} {r : BookPlan} → PlanOf book r → Holds book r.count book.limits r.a r.b (table (count book) (profit book))
unfolding limit
plan_holds {book} plan =
    record {
      counted = plan.count_is;
      limit_is = λ s h. refl;
      a_is = λ i h. plan.a_is i (omega (arith, plan.count_is));
      b_is = λ i h. plan.b_is i (omega (arith, plan.count_is));
      profit_is = λ i h. table_at (count book) (profit book) i 0 (omega (arith, plan.count_is));
    }
