-- "No plan that obeys the rules can earn more than the ceiling" (01, "Prices and the checker"), so a yes of the checker means a best plan,
-- and at prices where one plan gets a yes the best plans get one and no others. A line's ceiling is its row's, and there this is the
-- duality of prices. Assumes nothing.
use Rattle.std.specs.Prelude.{◌≡◌, Bool, true, false, ℕ, ◌+◌, ◌*◌, ◌-◌, ◌≤◌, ◌<◌}
use Rattle.std.proofs.Math.Path.{ap}
use Rattle.std.proofs.Common.{arith}
use borrow.Author.Tests.{eqb-true, eq-eqb}
use Rattle.base_sums.specs.Each.{both, left_of, right_of, fails}
use Rattle.base_sums.specs.Sums.{Σ, when, Σ-ext}
use Rattle.paper_book.specs.Book.{Book, spans, limit, count, profit}
use Rattle.paper_rules.specs.Plans.{Plan, kept, earnings, obeys, Best}
use Rattle.paper_rules.specs.Prices.{Prices, price_of, ceiling, verdict}
use Rattle.law_row.specs.Row
use Rattle.law_row.specs.Row.{fare}
use Rattle.law_row.specs.Duality.{weak}
use Rattle.law_line.specs.RowOf.{row_of}
use Rattle.law_line.specs.Line.{Line}
use Rattle.law_line.specs.Obeys.{obeys_fair}
use Rattle.law_line.specs.Ways.{crossed_covers}
use Rattle.law_line.specs.Laid.{obeys_laid, earnings_worth, within_row}

module _ {book : Book} (on : Line book) where
  pub ceiling_row : (prices : Prices) → ceiling book prices ≡ Row.ceiling (row_of book) prices
  unfolding ceiling Row.ceiling price_of fare row_of
  ceiling_row prices =
      ap (λ (n : ℕ). Σ (spans book) (λ s. limit book s * prices s) + n)
      (Σ-ext (count book) _ _ (λ i l. ap (λ (c : ℕ). profit book i - c) (priced i l)))
    where
      priced : (i : ℕ) → i < count book → price_of book prices i ≡ fare (row_of book) prices i
      priced i l = Σ-ext (spans book) _ _ (λ s ls. ap (λ (t : Bool). when t (prices s)) (crossed_covers on i s l))

  pub no_plan_above : (plan : Plan) (prices : Prices) → obeys book plan ≡ true → earnings book plan ≤ ceiling book prices
  no_plan_above plan prices e =
      let within = within_row on (obeys_laid on e) (obeys_fair book plan e).within_limits in
      omega (arith, earnings_worth book plan, ceiling_row prices, weak (row_of book) (kept plan) prices within)

  -- ---- what a yes means

  pub yes_obeys : (plan : Plan) (prices : Prices) → verdict book plan prices ≡ true → obeys book plan ≡ true
  unfolding verdict
  yes_obeys plan prices e = left_of _ _ e

  pub yes_earns : (plan : Plan) (prices : Prices) → verdict book plan prices ≡ true → earnings book plan ≡ ceiling book prices
  unfolding verdict
  yes_earns plan prices e = eqb-true _ _ (right_of (obeys book plan) _ e)

  pub yes_best : (plan : Plan) (prices : Prices) → verdict book plan prices ≡ true → Best book plan
  yes_best plan prices e = record { fair = yes_obeys plan prices e; most = λ other o. omega (arith, no_plan_above other prices o, yes_earns plan prices e) }

  -- ---- at prices where some plan gets a yes, a plan gets a yes exactly when it is best

  pub yes_for_best : (accepted plan : Plan) (prices : Prices) → verdict book accepted prices ≡ true → Best book plan → verdict book plan prices ≡ true
  unfolding verdict
  yes_for_best accepted plan prices e b =
      both _ _ b.fair (eq-eqb _ _ reached)
    where
      reached : earnings book plan ≡ ceiling book prices
      reached = omega (arith, yes_earns accepted prices e, b.most accepted (yes_obeys accepted prices e), no_plan_above plan prices b.fair)

  pub no_for_others : (plan : Plan) (prices : Prices) → (Best book plan → ⊥) → verdict book plan prices ≡ false
  no_for_others plan prices n = fails (λ e. n (yes_best plan prices e))
