-- What the checker's answers mean: for a yes, a no and a refusal the outcome of document 01. Assumes nothing.
use Rattle.std.specs.Prelude.{Bool, true, false, ◌≡◌, refl, Result, Ok, Err, ℕ}
use Rattle.std.proofs.Common.{sym, ap₂}
use Rattle.base_sums.specs.Each.{of_yes}
use Rattle.paper_book.specs.Reading.{Outcome, done, refused, refused_not_done}
use Rattle.read_record.specs.declared.Refusal.{Refusal}
use Rattle.read_record.specs.declared.Row.{Row}
use Rattle.read_record.specs.Numbers.{number_of, same_row}
use Rattle.check_plan.specs.declared.Verdict.{Verdict}
use Rattle.check_plan.specs.declared.Verdict.TheVariants.{Yes, No}

-- what `check_plan` answers
abbrev pub Checked : Type 0
Checked = Result Verdict Refusal

unfoldable pub checked_of : Checked → Outcome Bool
checked_of (Ok Yes) = done true
checked_of (Ok No) = done false
checked_of (Err refusal) = refused (number_of refusal.row) refusal.place

-- answers that mean the same outcome are the same, a refusal with its number and place included
pub same_checked : (c d : Checked) → checked_of c ≡ checked_of d → c ≡ d
unfolding checked_of
same_checked (Ok Yes) (Ok Yes) e = refl
same_checked (Ok Yes) (Ok No) e = let z : false ≡ true = cc in absurd (of_yes z)
same_checked (Ok Yes) (Err r) e = absurd (refused_not_done (sym e))
same_checked (Ok No) (Ok Yes) e = let z : false ≡ true = cc in absurd (of_yes z)
same_checked (Ok No) (Ok No) e = refl
same_checked (Ok No) (Err r) e = absurd (refused_not_done (sym e))
same_checked (Err r) (Ok Yes) e = absurd (refused_not_done e)
same_checked (Err r) (Ok No) e = absurd (refused_not_done e)
same_checked (Err r) (Err s) e =
    let number : number_of r.row ≡ number_of s.row = cc in
    let place : r.place ≡ s.place = cc in
    ap₂ (λ (row : Row) (at : ℕ). Err (record { row = row; place = at })) (same_row _ _ number) place
