-- Demand 3, last sentence: "With the prices our planner hands out, every best plan gets a yes and no other plan does." The planner promises prices at which
-- the checker accepts its own plan; where one plan gets a yes, the best plans get one and no others. Assumes nothing.
use Rattle.std.specs.Prelude.{Result, Ok, Err, IsOkAnd, true, false, List, ◌≡◌, ℕ}
use Rattle.paper_book.specs.Book.{Book}
use Rattle.paper_book.specs.Columns.{at}
use Rattle.paper_book.specs.Reading.{done}
use Rattle.paper_rules.specs.Plans.{Plan, Best}
use Rattle.paper_rules.specs.Prices.{verdict}
use Rattle.paper_rules.specs.Operations.{plannable_in}
use Rattle.law_line.specs.Line.{Line}
use Rattle.law_line.specs.Ceiling.{yes_for_best, no_for_others}
use Rattle.read_record.specs.declared.Refusal.{Refusal}
use Rattle.plan_book.specs.declared.BookPlan.{BookPlan}
use Rattle.plan_book.specs.Promise.{PlanOf, BookPlanned}

-- what `plan_book::plan_book` answers for a line's book with lists long enough: a plan, with whose prices ..
module _ {file : List ℕ} {entryRoom priceRoom : ℕ} {made : Result BookPlan Refusal} (planned : BookPlanned file entryRoom priceRoom made)
    {book : Book} (long : plannable_in file entryRoom priceRoom ≡ done book) (line : book.shape ≡ 1)
  where
    on : {r : BookPlan} → PlanOf book r → Line book
    on ours = record { line = line; sound = ours.sound }

    pub planner_best_gets_yes : IsOkAnd made (λ r. (other : Plan) → Best book other → verdict book other (at r.prices) ≡ true)
    planner_best_gets_yes = go made (planned.plan book long)
      where
        go : (m : Result BookPlan Refusal) → IsOkAnd m (PlanOf book) → IsOkAnd m (λ r. (other : Plan) → Best book other → verdict book other (at r.prices) ≡ true)
        go (Ok r) ours = λ other best. yes_for_best (on ours) (at r.entries) other (at r.prices) (ours.priced line).accepted best
        go (Err refusal) none = absurd none

    pub planner_others_get_no : IsOkAnd made (λ r. (other : Plan) → (Best book other → ⊥) → verdict book other (at r.prices) ≡ false)
    planner_others_get_no = go made (planned.plan book long)
      where
        go : (m : Result BookPlan Refusal) → IsOkAnd m (PlanOf book) → IsOkAnd m (λ r. (other : Plan) → (Best book other → ⊥) → verdict book other (at r.prices) ≡ false)
        go (Ok r) ours = λ other not-best. no_for_others (on ours) other (at r.prices) not-best
        go (Err refusal) none = absurd none
