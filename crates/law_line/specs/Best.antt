-- `best` is what best plans of a line earn. A plan that obeys the rules keeps a set within the limits; and a set within the limits, its
-- requests laid on their ways and given channels by the rule, is a plan that obeys the rules. Assumes nothing.
use Rattle.std.specs.Prelude.{◌≡◌, Bool, true, ◌≤◌}
use Rattle.std.proofs.Math.Path.{ap}
use Rattle.std.proofs.Common.{◌∙◌, arith}
use Rattle.base_sums.specs.Sums.{when, Σ-ext}
use Rattle.paper_book.specs.Book.{Book, limit, count, profit}
use Rattle.paper_rules.specs.Plans.{Plan, kept, earnings, obeys, Best}
use Rattle.paper_rules.specs.Channels.{by_rule}
use Rattle.paper_rules.specs.Best.{best}
use Rattle.law_line.specs.Line.{Line}
use Rattle.law_line.specs.Obeys.{obeys_fair}
use Rattle.law_line.specs.Laid.{obeys_laid, load_crossed}
use Rattle.law_line.specs.Sets.{set_bounded, set_attained}
use Rattle.law_line.specs.Made.{made}

module _ {book : Book} (on : Line book) where
  pub most : (plan : Plan) → obeys book plan ≡ true → earnings book plan ≤ best book
  unfolding earnings best
  most plan e =
      set_bounded book (count book) (limit book) (kept plan)
      (λ s l. rw (← load_crossed (obeys_laid on e) s) ((obeys_fair book plan e).within_limits s l))

  -- the set that earns it makes a plan that does, with its ways and channels
  pub attained : (plan : Plan) × (obeys book plan ≡ true) × (by_rule book plan ≡ true) × (earnings book plan ≡ best book)
  unfolding earnings best
  attained =
      let (x, within, earns) = set_attained book (count book) (limit book) in
      let (plan, m) = made on x within in
      (plan, m.fair, m.rule, Σ-ext (count book) _ _ (λ i l. ap (λ (t : Bool). when t (profit book i)) (m.keeps i)) ∙ earns)

  -- ---- the best plans are those that earn it

  pub best_is : {plan : Plan} → Best book plan → earnings book plan ≡ best book
  best_is {plan} b = let a = attained in omega (arith, most plan b.fair, b.most a.0 a.1, a.3)

  pub is_best : {plan : Plan} → obeys book plan ≡ true → earnings book plan ≡ best book → Best book plan
  is_best e earns = record { fair = e; most = λ other o. omega (arith, most other o) }
