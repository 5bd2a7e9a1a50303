-- What the row planner leaves is, on a line, a kept set within the limits that earns the ceiling of its prices: the state of the flow is the
-- certificate of the row, and prices cut down to 1,000,000, which no profit exceeds, still certify. So the set earns the best. Assumes nothing.
use Rattle.std.specs.Prelude.{◌≡◌, Bool, true, ℕ, ◌≤◌, ◌<◌}
use Rattle.std.proofs.Math.Path.{sym}
use Rattle.std.proofs.Common.{◌∙◌, eq-eqb}
use native.Mathlib.Omega.{arith}
use Rattle.base_sums.specs.Each.{both}
use Rattle.paper_book.specs.Book.{Book, limit, count}
use Rattle.paper_rules.specs.Plans.{Plan, kept, obeys}
use Rattle.paper_rules.specs.Prices.{Prices, verdict}
use Rattle.paper_rules.specs.Best.{best}
use Rattle.law_row.specs.Row.{Row, worth, WithinLimits, Tight}
use Rattle.law_row.specs.Duality.{tight}
use Rattle.law_row.specs.Answers.{none_worth_more}
use Rattle.law_row.specs.Clamp.{clamp, clamped}
use Rattle.law_row.specs.Same.{SameKept, Same, within_same, tight_same}
use Rattle.law_flow.specs.Balanced.{Proper, Balanced, price_at}
use Rattle.law_flow.specs.Certificate.{balanced_within, balanced_tight}
use Rattle.law_line.specs.RowOf.{row_of}
use Rattle.law_line.specs.Line.{Line}
use Rattle.law_line.specs.Ways.{proper}
use Rattle.law_line.specs.Obeys.{obeys_fair}
use Rattle.law_line.specs.Laid.{obeys_laid, earnings_worth, crossing_row, within_row}
use Rattle.law_line.specs.Sets.{set_bounded}
use Rattle.law_line.specs.Ceiling.{ceiling_row}
use Rattle.law_line.specs.Best.{attained}

-- x is within the limits of the line, and certified by the prices y
pub record Certified (book : Book) (x : ℕ → Bool) (y : Prices) : Type 0 where
  pub within : WithinLimits (row_of book) x
  pub certificate : Tight (row_of book) x y

-- ---- the state of the flow is a certificate

module _ {book : Book} (on : Line book) {row : Row} (same : Same row (row_of book)) where
  real : Proper row row.count
  unfolding row_of
  real = record {
    some_cell = λ i l. omega (arith, same.intervals.lo i l, same.intervals.hi i l, (proper on).some_cell i (omega (arith, same.intervals.count)));
    in_row = λ i l. omega (arith, same.intervals.hi i l, same.intervals.cells, (proper on).in_row i (omega (arith, same.intervals.count)));
  }

  small : (i : ℕ) → i < row.count → row.profit i ≤ 1000000
  unfolding row_of
  small i l = omega (arith, same.profit i l, on.sound.profit_upto i (omega (arith, same.intervals.count)))

  -- for any set that keeps the same requests, and any prices that are the same on the line's spans
  pub certified :
      {x x' : ℕ → Bool} {s N : ℕ → ℕ} {y : Prices}
      → Balanced row row.count x s N → SameKept row.count x x' → ((j : ℕ) → j < row.cells → clamp 1000000 (price_at N) j ≡ y j) → Certified book x' y
  certified {x} {x'} {s} {N} b sets prices = record {
    within = within_same same sets (balanced_within b);
    certificate = tight_same same sets prices (clamped row x (price_at N) 1000000 small (balanced_tight real b));
  }

-- ---- a plan with such a set gets a yes, and no set earns more

module _ {book : Book} (on : Line book) where
  pub certified_yes : (plan : Plan) {y : Prices} → obeys book plan ≡ true → Certified book (kept plan) y → verdict book plan y ≡ true
  unfolding verdict
  certified_yes plan {y} fair c = both _ _ fair (eq-eqb _ _ (earnings_worth book plan ∙ tight (row_of book) (kept plan) y c.certificate ∙ sym (ceiling_row on y)))

  -- a best plan's set is within the limits, and this one is among those that `best` tries
  pub earns_best : {x : ℕ → Bool} {y : Prices} → Certified book x y → worth (row_of book) x ≡ best book
  unfolding row_of worth best
  earns_best {x} {y} c =
      let (plan, fair, rule, earns) = attained on in
      let within = within_row on (obeys_laid on fair) (obeys_fair book plan fair).within_limits in
      omega (
        arith,
        earns,
        earnings_worth book plan,
        none_worth_more (row_of book) x (kept plan) y c.certificate within,
        set_bounded book (count book) (limit book) x (λ s l. omega (arith, crossing_row on x s, c.within.holds s l)),
      )
