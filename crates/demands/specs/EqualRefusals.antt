-- Two outcomes allowed by the same statement are equal (01, "How far the statements reach"): of reading and of the checker, accepted or refused; as far as
-- refusals go, of the planner with all that stands beside the refusal, and at the desk's boundary with the later content of both lists. Assumes nothing.
use Rattle.std.specs.Prelude.{Result, Err, List, ◌≡◌, ℕ}
use Rattle.std.proofs.Common.{sym, ◌∙◌}
use Rattle.paper_book.specs.Reading.{refused}
use Rattle.paper_rules.specs.Operations.{plannable, checker}
use Rattle.read_record.specs.declared.Refusal.{Refusal}
use Rattle.read_book.specs.declared.Taken.{Taken}
use Rattle.read_book.specs.Says.{Reads}
use Rattle.read_book.specs.Accepted.{taken_once}
use Rattle.check_plan.specs.Checked.{Checked, checked_of, same_checked}
use Rattle.plan_book.specs.declared.BookPlan.{BookPlan}
use Rattle.plan_book.specs.Promise.{BookPlanned}
use Rattle.plan_book.specs.Cases.{is_refused, refused_once}
use Rattle.desk.specs.Promise.{PlanAnswer}

-- reading: the same value, with all that stands beside the answer, accepted or refused
pub read_equal : {file : List ℕ} {read other : Result Taken Refusal} → Reads file read → Reads file other → read ≡ other
read_equal p q = taken_once p q

-- the checker: the same answer, a refusal with its number and place included
pub checked_equal :
    (file entries prices : List ℕ) {c d : Checked} → checked_of c ≡ checker file entries prices → checked_of d ≡ checker file entries prices → c ≡ d
checked_equal file entries prices {c} {d} p q = same_checked c d (p ∙ sym q)

-- the planner: where one outcome is a refusal, the other is the same one
pub planner_refusal_equal :
    {file : List ℕ} {entryRoom priceRoom : ℕ} {r other : Result BookPlan Refusal} {refusal : Refusal}
    → BookPlanned file entryRoom priceRoom r → BookPlanned file entryRoom priceRoom other → r ≡ Err refusal → r ≡ other
planner_refusal_equal p q e = let is = is_refused p e in refused_once (p.refusal _ _ is) (q.refusal _ _ is)

-- the desk: where the book or the lists are refused, the answers are equal, and so is every byte of both lists afterwards
module _ {file entries prices entries₁ prices₁ entries₂ prices₂ : List ℕ} {answer₁ answer₂ number place : ℕ}
    (p : PlanAnswer file entries prices answer₁ entries₁ prices₁) (q : PlanAnswer file entries prices answer₂ entries₂ prices₂)
    (refusal : plannable file entries prices ≡ refused number place)
  where
    pub desk_refusal_equal : answer₁ ≡ answer₂
    desk_refusal_equal = (p.refusal number place refusal).0 ∙ sym (q.refusal number place refusal).0

    pub desk_entries_equal : entries₁ ≡ entries₂
    desk_entries_equal = (p.refusal number place refusal).1 ∙ sym (q.refusal number place refusal).1

    pub desk_prices_equal : prices₁ ≡ prices₂
    desk_prices_equal = (p.refusal number place refusal).2 ∙ sym (q.refusal number place refusal).2
