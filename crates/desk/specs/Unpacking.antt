-- The packing can be undone: the highest bit tells a refusal from an answer, and every part is read back from its bits (docs/DESK.md). Said of the packing,
-- then of what the exported functions answer. Assumes nothing.
use Rattle.std.specs.Prelude.{Bool, true, false, cond, List, ◌≡◌, refl, ℕ, ◌+◌, ◌*◌, ◌^◌, ◌/◌, ◌%◌, ltb, eqb}
use Rattle.std.proofs.Common.{ap₂, arith, le-ltb}
use Rattle.base_sums.specs.Sums.{bit}
use Rattle.paper_book.specs.Book.{Book}
use Rattle.paper_book.specs.Bytes.{entry_places, price_places}
use Rattle.paper_book.specs.Sound.{Sound, sound}
use Rattle.paper_book.specs.Reading.{Outcome, done, refused}
use Rattle.paper_rules.specs.Operations.{checker, plannable}
use Rattle.plan_book.specs.Cases.{plannable_read}
use Rattle.desk.specs.Packing.{packed_refusal, packed_plan, packed_verdict}
use Rattle.desk.specs.Promise.{Handed, PlanAnswer}
use Rattle.desk.specs.Bounds.{SmallRefusal, SmallPlan, refusal_small, plan_small, checker_small}

-- ---- bit 63, then the parts

abbrev pub RefusalTold : ℕ → ℕ → ℕ → Type 0
RefusalTold answer number place = (answer / 2 ^ 63 ≡ 1) × (answer / 2 ^ 32 % 2 ^ 31 ≡ number) × (answer % 2 ^ 32 ≡ place)

abbrev pub PlanTold : ℕ → ℕ → ℕ → ℕ → Type 0
PlanTold answer earned number cut = (answer / 2 ^ 63 ≡ 0) × (answer / 2 ^ 32 ≡ earned) × (answer / 2 ^ 16 % 2 ^ 16 ≡ number) × (answer % 2 ^ 16 ≡ cut)

pub refusal_told : {number place : ℕ} → SmallRefusal number place → RefusalTold (packed_refusal number place) number place
unfolding packed_refusal
refusal_told small = (omega (arith, small.number_upto, small.place_upto), omega (arith, small.number_upto, small.place_upto), omega (arith, small.place_upto))

pub plan_told : {earned number cut : ℕ} → SmallPlan earned number cut → PlanTold (packed_plan earned number cut) earned number cut
unfolding packed_plan
plan_told small = (
  omega (arith, small.earned_upto, small.number_upto, small.cut_upto),
  omega (arith, small.number_upto, small.cut_upto),
  omega (arith, small.number_upto, small.cut_upto),
  omega (arith, small.cut_upto),
)

pub verdict_told : (t : Bool) → (packed_verdict (done t) / 2 ^ 63 ≡ 0) × (packed_verdict (done t) ≡ bit t)
unfolding packed_verdict
verdict_told true = (refl, refl)
verdict_told false = (refl, refl)

-- ---- what `melyonva_check` answers, read back whole

unfoldable pub verdict_in : ℕ → Outcome Bool
verdict_in answer = cond (ltb answer (2 ^ 63)) (done (eqb answer 1)) (refused (answer / 2 ^ 32 % 2 ^ 31) (answer % 2 ^ 32))

read_back : (o : Outcome Bool) → ((number place : ℕ) → o ≡ refused number place → SmallRefusal number place) → verdict_in (packed_verdict o) ≡ o
unfolding verdict_in packed_verdict packed_refusal
read_back (done true) small = refl
read_back (done false) small = refl
read_back (refused number place) small =
    let told = refusal_told (small number place refl) in
    rw (le-ltb (2 ^ 63 + number * 2 ^ 32 + place) (2 ^ 63) (omega arith)) (ap₂ refused told.1 told.2)

pub checker_told : (file entries prices : List ℕ) → verdict_in (packed_verdict (checker file entries prices)) ≡ checker file entries prices
checker_told file entries prices = read_back (checker file entries prices) (checker_small file entries prices)

-- ---- what `melyonva_plan` answers: a refusal, or the plan's numbers

pub handed_told :
    {book : Book} {entries prices entries' prices' : List ℕ} {answer : ℕ} → Sound book → (plan : Handed book answer entries prices entries' prices')
    → PlanTold answer plan.earned plan.number plan.cut
handed_told sound plan = rw plan.says (plan_told (plan_small sound plan.planned))

module _ {file entries prices entries' prices' : List ℕ} {answer : ℕ} (made : PlanAnswer file entries prices answer entries' prices') where
  pub planner_refusal_told : {number place : ℕ} → plannable file entries prices ≡ refused number place → RefusalTold answer number place
  unfolding plannable
  planner_refusal_told {number} {place} is =
      rw (made.refusal number place is).0 (refusal_told (refusal_small file (entry_places entries) (price_places prices) number place is))

  pub planner_plan_told : (book : Book) (is : plannable file entries prices ≡ done book) → let plan = made.plan book is in PlanTold answer plan.earned plan.number plan.cut
  unfolding plannable
  planner_plan_told book is =
      handed_told (sound file book (plannable_read file (entry_places entries) (price_places prices) book is).0) (made.plan book is)
