-- The plan that `print_plan` is asked to print, and what it promises. Without a cut it is a line's, whose cut is not shown, whatever number it has; with one
-- it is a plan of any other shape, of that cut. Assumes nothing.
use Rattle.std.specs.Prelude.{None, Some, MatchOption, cond, eqb, List, ◌≡◌, ℕ, length}
use Rattle.std.proofs.Common.{⊎_elim, eq-eqb, ne_eqb}
use Rattle.base_sums.specs.Each.{same_or_not}
use Rattle.page_plan.specs.declared.shown.Shown.{Shown}
use Rattle.page_plan.specs.Promise.{PrintsPlan}

abbrev pub PrintsShown : Shown → List ℕ → List ℕ → ℕ → Type 0
PrintsShown plan before after r =
    MatchOption plan.cut
    ((cut : ℕ) → PrintsPlan 1 (length plan.a.now) plan.earned plan.kept cut plan.a.now plan.b.now plan.entries.now before after r)
    (λ cut. (shape : ℕ) → (shape ≡ 1 → ⊥) → PrintsPlan shape (length plan.a.now) plan.earned plan.kept cut plan.a.now plan.b.now plan.entries.now before after r)

-- so any number of a shape can be asked for with any cut, and is printed with them
pub any_pair :
    (plan : Shown) {before after : List ℕ} {r : ℕ} (shape cut : ℕ) → plan.cut ≡ cond (eqb shape 1) None (Some cut) → PrintsShown plan before after r
    → PrintsPlan shape (length plan.a.now) plan.earned plan.kept cut plan.a.now plan.b.now plan.entries.now before after r
any_pair plan shape cut e prints =
    ⊎_elim (λ (one : shape ≡ 1). let none = rw (eq-eqb shape 1 one) at e in rw one ((rw none at prints) cut))
    (λ other. let some = rw (ne_eqb shape 1 other) at e in (rw some at prints) shape other)
    (same_or_not shape 1)
