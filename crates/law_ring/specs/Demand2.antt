-- Demand 2 on rings, in its words: "On a ring the earnings are the greatest that any single cut span allows, the plan being best on the line which that cut
-- leaves." Said of any accepted ring book and any plan that is best on the line of the reported cut. Assumes nothing.
use Rattle.std.specs.Prelude.{◌≡◌, true, ℕ, ◌≤◌, ◌<◌}
use Rattle.std.proofs.Math.Path.{sym}
use Rattle.std.proofs.Common.{◌∙◌, arith}
use Rattle.paper_book.specs.Book.{Book, spans}
use Rattle.paper_rules.specs.Plans.{Plan, earnings, obeys, Best}
use Rattle.paper_rules.specs.Cuts.{cut_line, cut_best, cut}
use Rattle.law_line.specs.Best.{most, best_is}
use Rattle.law_ring.specs.Ring.{Ring}
use Rattle.law_ring.specs.CutLine.{cut_line_lem}
use Rattle.law_ring.specs.Fair.{cut_earnings, cut_plan_obeys}
use Rattle.law_ring.specs.Choice.{cut_in, cut_chosen}

module _ {book : Book} (on : Ring book) where
  -- what a plan of the line which a cut leaves can earn
  pub cut_most : (j : ℕ) → j < spans book → (other : Plan) → obeys (cut_line book j) other ≡ true → earnings book other ≤ cut_best book j
  unfolding cut_best
  cut_most j l other e = omega (arith, cut_earnings on j other, most (cut_line_lem on j l) other e)

  module _ (plan : Plan) (there : Best (cut_line book (cut book)) plan) where
    -- the plan obeys the ring's own rules
    pub obeys_ring : obeys book plan ≡ true
    obeys_ring = cut_plan_obeys on (cut book) (cut_in on) plan there.fair

    -- it earns what its line can
    pub earns_cut_best : earnings book plan ≡ cut_best book (cut book)
    unfolding cut_best
    earns_cut_best = sym (cut_earnings on (cut book) plan) ∙ best_is (cut_line_lem on (cut book) (cut_in on)) there

    -- no plan on the line of any cut earns more
    pub no_cut_earns_more : (j : ℕ) → j < spans book → (other : Plan) → obeys (cut_line book j) other ≡ true → earnings book other ≤ earnings book plan
    no_cut_earns_more j l other e = omega (arith, earns_cut_best, cut_most j l other e, (cut_chosen on).greatest_there j l)

    -- and every plan on the line of a lower cut earns less
    pub lower_cut_earns_less : (j : ℕ) → j < cut book → (other : Plan) → obeys (cut_line book j) other ≡ true → earnings book other < earnings book plan
    lower_cut_earns_less j l other e = omega (arith, earns_cut_best, cut_most j (omega (arith, cut_in on)) other e, (cut_chosen on).lowest j l)

  -- the statement leaves one figure of earnings
  pub earnings_once : (plan other : Plan) → Best (cut_line book (cut book)) plan → Best (cut_line book (cut book)) other → earnings book plan ≡ earnings book other
  earnings_once plan other p q = earns_cut_best plan p ∙ sym (earns_cut_best other q)
