-- The checker's answer as one number: for a yes, a no and a refusal the packing of what it means. Assumes nothing.
use Rattle.std.specs.Prelude.{List, ◌≡◌, ℕ, Ok, Err}
use Rattle.std.proofs.Math.Path.{sym, ap}
use Rattle.std.proofs.Common.{◌∙◌}
use Rattle.paper_book.specs.Reading.{refused}
use Rattle.paper_rules.specs.Operations.{checker}
use Rattle.read_record.specs.declared.Refusal.{Refusal}
use Rattle.read_record.specs.Numbers.{number_of}
use Rattle.check_plan.specs.declared.Verdict.TheVariants.{Yes, No}
use Rattle.check_plan.specs.Checked.{Checked, checked_of}
use Rattle.desk.specs.Packing.{packed_refusal, packed_verdict}
use Rattle.desk.specs.Bounds.{SmallRefusal, checker_small}

module _ (file entries prices : List ℕ) {checked : Checked} (says : checked_of checked ≡ checker file entries prices) where
  pub packed_yes : checked ≡ Ok Yes → 1 ≡ packed_verdict (checker file entries prices)
  unfolding checked_of packed_verdict
  packed_yes e = ap (λ c. packed_verdict (checked_of c)) (sym e) ∙ ap packed_verdict says

  pub packed_no : checked ≡ Ok No → 0 ≡ packed_verdict (checker file entries prices)
  unfolding checked_of packed_verdict
  packed_no e = ap (λ c. packed_verdict (checked_of c)) (sym e) ∙ ap packed_verdict says

  module _ {refusal : Refusal} (e : checked ≡ Err refusal) where
    told : checker file entries prices ≡ refused (number_of refusal.row) refusal.place
    unfolding checked_of
    told = sym says ∙ ap checked_of e

    pub refused_small : SmallRefusal (number_of refusal.row) refusal.place
    refused_small = checker_small file entries prices _ _ told

    pub packed_refused : {r : ℕ} → r ≡ packed_refusal (number_of refusal.row) refusal.place → r ≡ packed_verdict (checker file entries prices)
    unfolding packed_verdict
    packed_refused h = h ∙ ap packed_verdict (sym told)
