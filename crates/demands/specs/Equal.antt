-- Two outcomes allowed by the same statement are equal (01, "How far the statements reach"): earnings and cut of two plans that the planner might hand back,
-- and, where they keep the same requests, their entries and numbers kept, and with them all that is handed back but a line's prices; and two accepted price
-- lists of one book say yes to the same plans. Assumes nothing.
use Rattle.std.specs.Prelude.{true, ◌≡◌, ℕ, ◌<◌}
use Rattle.std.proofs.Common.{⊎_elim, subst, ◌∙◌, arith}
use Rattle.std.proofs.Math.Path.{sym, ap}
use Rattle.base_sums.specs.Sums.{Σ-ext, bit}
use Rattle.base_sums.specs.Vacant.{vacant_same}
use Rattle.paper_book.specs.Book.{Book, spans, count}
use Rattle.paper_book.specs.Columns.{at}
use Rattle.paper_book.specs.Sound.{Sound}
use Rattle.paper_rules.specs.Plans.{Plan, kept, number_kept, earnings, Best}
use Rattle.paper_rules.specs.Prices.{Prices, verdict}
use Rattle.paper_rules.specs.Operations.{Planned, Priced}
use Rattle.law_line.specs.Line.{Line}
use Rattle.law_line.specs.Laid.{obeys_laid}
use Rattle.law_line.specs.Found.{rule_once}
use Rattle.law_line.specs.Ceiling.{yes_best, yes_for_best}
use Rattle.law_ring.specs.Demand2.{earnings_once}
use Rattle.law_ring.specs.PlanLine.{line_plan, ring_plan, line_for}
use Rattle.plan_book.specs.declared.BookPlan.{BookPlan}
use Rattle.plan_book.specs.Promise.{PlanOf}
use Rattle.read_record.specs.Shapes.{same_shape}
use Rattle.plan_book.specs.Cases.{parts_same}

module _ {book : Book} (sound : Sound book) {plan other : Plan} {earned number cut₁ earned' number' cut₂ : ℕ}
    (p : Planned book plan earned number cut₁) (q : Planned book other earned' number' cut₂)
  where
    -- the cut
    pub cut_equal : cut₁ ≡ cut₂
    cut_equal = p.cut_is ∙ sym q.cut_is

    -- the earnings
    pub earned_equal : earned ≡ earned'
    earned_equal = p.earned_is ∙ ⊎_elim on_line on_ring sound.shaped ∙ sym q.earned_is
      where
        on_line : book.shape ≡ 1 → earnings book plan ≡ earnings book other
        on_line e =
            let b : Best book plan = subst (λ k. Best k plan) (line_plan book e) p.best_there in
            let c : Best book other = subst (λ k. Best k other) (line_plan book e) q.best_there in
            omega (arith, b.most other c.fair, c.most plan b.fair)

        on_ring : book.shape ≡ 2 → earnings book plan ≡ earnings book other
        on_ring e =
            earnings_once (record { ring = e; sound = sound }) plan other (subst (λ k. Best k plan) (ring_plan book e) p.best_there) (subst (λ k. Best k other) (ring_plan book e) q.best_there)

    -- with equal kept sets also the entries and the numbers kept
    module _ (same : (i : ℕ) → i < count book → kept plan i ≡ kept other i) where
      pub number_equal : number ≡ number'
      unfolding number_kept
      number_equal = p.number_is ∙ Σ-ext (count book) _ _ (λ i l. ap bit (same i l)) ∙ sym q.number_is

      pub entries_equal : (i : ℕ) → i < count book → plan i ≡ other i
      entries_equal i h =
          let line = line_for book sound in
          let on = line.its_line in
          rule_once on (obeys_laid on p.best_there.fair) (obeys_laid on q.best_there.fair) p.channels q.channels (λ j m. same j (omega (arith, line.counted))) i (omega (arith, line.counted))

-- two accepted price lists of one line say yes to the same plans
pub prices_equal : {book : Book} → Line book → {plan plan' : Plan} {prices prices' : Prices} → Priced book plan prices → Priced book plan' prices' → (other : Plan) → verdict book other prices ≡ true → verdict book other prices' ≡ true
prices_equal on {plan'} {prices} {prices'} p q other e = yes_for_best on plan' other prices' q.accepted (yes_best on other prices e)

-- ---- two values that the planner's promise allows for one book, where they keep the same requests

module _ {book : Book} {r other : BookPlan} (p : PlanOf book r) (q : PlanOf book other)
    (same : (i : ℕ) → i < count book → kept (at r.entries) i ≡ kept (at other.entries) i)
  where
    pub entry_lists_equal : r.entries ≡ other.entries
    entry_lists_equal = vacant_same p.entries_end q.entries_end (entries_equal p.sound p.planned q.planned same)

    -- they are one value, but for the prices of a line's spans, which 01 leaves open
    pub plan_equal : (book.shape ≡ 1 → (j : ℕ) → j < spans book → at r.prices j ≡ at other.prices j) → r ≡ other
    plan_equal prices =
        parts_same
        (earned_equal p.sound p.planned q.planned)
        (number_equal p.sound p.planned q.planned same)
        (cut_equal p.sound p.planned q.planned)
        (same_shape r.shape other.shape (p.shape_is ∙ sym q.shape_is))
        (p.spans_is ∙ sym q.spans_is)
        (p.count_is ∙ sym q.count_is)
        (vacant_same p.a_end q.a_end (λ i l. p.a_is i l ∙ sym (q.a_is i l)))
        (vacant_same p.b_end q.b_end (λ i l. p.b_is i l ∙ sym (q.b_is i l)))
        entry_lists_equal
        (⊎_elim (λ e. vacant_same (p.line_prices_end e) (q.line_prices_end e) (prices e)) (λ e. p.ring_prices e ∙ sym (q.ring_prices e)) p.sound.shaped)

    -- on a ring nothing is left open
    pub ring_plan_equal : book.shape ≡ 2 → r ≡ other
    ring_plan_equal ring = plan_equal (λ line. absurd (omega (arith, ring)))
