-- Prices known from other cuts: whatever they are, up to 1,000,000, their ceiling on the line which cut j leaves is not below what that line can earn.
-- Assumes nothing.
use Rattle.std.specs.Prelude.{List, ◌≡◌, ℕ, ◌+◌, ◌-◌, ◌≤◌, ◌<◌, length, set, replicate}
use Rattle.std.proofs.Common.{⊎_elim, sym, ap, ◌∙◌, arith}
use Rattle.base_sums.specs.At.{zeros, store}
use Rattle.base_sums.specs.Each.{same_or_not}
use Rattle.base_sums.specs.Filled.{Filled}
use Rattle.paper_book.specs.Columns.{at}
use Rattle.paper_rules.specs.Prices.{ceiling}
use Rattle.paper_rules.specs.Cuts.{steps, span_at, cut_best}
use Rattle.law_ring.specs.Turn.{span_below, place_of_span}
use Rattle.plan_turn.specs.Nodes.{Turned}
use Rattle.plan_turn.specs.Lent.{Columns, CutLine}
use Rattle.work_ceiling.specs.PricedLine.{PricedLine}
use Rattle.work_ceiling.specs.Lent.{PricedColumns}
use Rattle.work_ceiling.specs.Above.{best_upto_ceiling}
use Rattle.plan_row.specs.Placing.{OneToOne, LowPrices}
use Rattle.plan_ring.specs.Promise.{RingColumns, RingLent}
use Rattle.plan_ring.specs.Turned.{cut_columns, cut_best_lem}

-- no prices yet
pub low_none : LowPrices (replicate 64 0)
low_none = record { upto = λ s. omega (arith, zeros 64 s) }

-- one price more that is not too high
pub low_more : {prices : List ℕ} {j v : ℕ} → j < length prices → v ≤ 1000000 → LowPrices prices → LowPrices (set prices j v)
low_more {prices} {j} {v} l h was =
    let p = store 0 prices j v l in
    record { upto = λ s. ⊎_elim (λ q. rw (p.here s q) h) (λ n. rw (p.elsewhere s n) (was.upto s)) (same_or_not s j) }

-- no two places of the line are the same span of the ring
pub ring_places :
    {nodes j : ℕ} {place known : List ℕ} → j < nodes → nodes ≤ 64 → Filled (span_at nodes j) (nodes - 1) place → length known ≡ 64
    → OneToOne (nodes - 1) place known
ring_places {nodes} {j} cut few map long = record {
  in_list = λ t l. omega (arith, map.is t l, span_below nodes j cut t (omega arith));
  own = λ t u l h q.
      sym (place_of_span nodes j cut t (omega arith)) ∙ ap (steps nodes (j + 1)) (sym (map.is t l) ∙ q ∙ map.is u h) ∙ place_of_span nodes j cut u (omega arith);
}

module _ {nodes count : ℕ} {limits a b profits : List ℕ} (w : RingColumns nodes count limits a b profits) (j : ℕ) (cut : j < nodes)
    {limits' a' b' prices known : List ℕ}
    (turned : Turned nodes j count limits a b limits' a' b') (priced : Filled (λ t. at known (span_at nodes j t)) (nodes - 1) prices) (low : LowPrices known)
  where
    pub cut_priced : PricedLine (nodes - 1) count limits' a' b' profits prices
    cut_priced =
        let v = cut_columns w j cut turned in
        record {
          book = v.book;
          held = v.held;
          price_upto = λ t l. omega (arith, priced.is t l, low.upto (span_at nodes j t));
        }

    pub cut_bounded : {r : ℕ} → ((v : PricedLine (nodes - 1) count limits' a' b' profits prices) → r ≡ ceiling v.book (at prices)) → cut_best w.book j ≤ r
    unfolding cut_priced
    cut_bounded says =
        let v = cut_columns w j cut turned in
        omega (arith, cut_best_lem w j cut turned, says cut_priced, best_upto_ceiling v.held.line (at prices))

-- the same of lent columns
module _ {ring : Columns} (w : RingLent ring) (j : ℕ) (cut : j < length ring.limits.now) {line : Columns} (l : CutLine ring j line)
    {prices known : List ℕ} (priced : Filled (λ t. at known (span_at (length ring.limits.now) j t)) (length ring.limits.now - 1) prices) (low : LowPrices known)
  where
    pub lent_priced : PricedColumns line prices
    lent_priced = rw (l.spans_is, l.count_is, l.profit_is) (cut_priced w j cut l.turned priced low)

    pub lent_bounded : {r : ℕ} → ((v : PricedColumns line prices) → r ≡ ceiling v.book (at prices)) → cut_best w.book j ≤ r
    lent_bounded says = cut_bounded w j cut l.turned priced low (rw (l.spans_is, l.count_is, l.profit_is) at says)
