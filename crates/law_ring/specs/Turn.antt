-- Places along the line which a cut leaves: a node or a span is counted from the node after the cut. Every number but the cut's own span has one place, and
-- going round the ring from the cut is going along the line. Assumes nothing.
use Rattle.std.specs.Prelude.{◌≡◌, cond, ◌⊎◌, ℕ, ◌+◌, ◌-◌, ◌≤◌, ◌<◌}
use Rattle.std.proofs.Common.{sym, ap, inl, inr, ⊎_elim, arith, le-leb}
use Rattle.std.proofs.lemmas.Bool.{lt-leb}
use Rattle.base_sums.specs.Each.{less_or_not}
use Rattle.paper_rules.specs.Cuts.{steps, span_at}

-- p steps lead from u up to v, or round past the last node
pub record StepsTo (n u v p : ℕ) : Type 0 where
  pub case : ((u ≤ v) × (p + u ≡ v)) ⊎ ((v < u) × (p + u ≡ v + n))

pub steps_ahead : (n u v : ℕ) → u ≤ v → v - u ≡ steps n u v
unfolding steps
steps_ahead n u v h = ap (λ t. cond t (v - u) (v + n - u)) (sym (le-leb u v h))

pub steps_round : (n u v : ℕ) → v < u → v + n - u ≡ steps n u v
unfolding steps
steps_round n u v h = ap (λ t. cond t (v - u) (v + n - u)) (sym (lt-leb u v h))

pub steps_lead : (n u v : ℕ) → u ≤ n → StepsTo n u v (steps n u v)
steps_lead n u v h =
    record {
      case =
          ⊎_elim
          (λ (l : v < u). inr (l, omega (arith, steps_round n u v l)))
          (λ (l : u ≤ v). inl (l, omega (arith, steps_ahead n u v l)))
          (less_or_not v u);
    }

-- the place t of the line and the span that stands there
pub record Stands (n j t s : ℕ) : Type 0 where
  pub case : ((n ≤ j + 1 + t) × (s + n ≡ j + 1 + t)) ⊎ ((j + 1 + t < n) × (s ≡ j + 1 + t))

pub span_round : (n j t : ℕ) → n ≤ j + 1 + t → j + 1 + t - n ≡ span_at n j t
unfolding span_at
span_round n j t h = ap (λ b. cond b (j + 1 + t - n) (j + 1 + t)) (sym (le-leb n (j + 1 + t) h))

pub span_ahead : (n j t : ℕ) → j + 1 + t < n → j + 1 + t ≡ span_at n j t
unfolding span_at
span_ahead n j t h = ap (λ b. cond b (j + 1 + t - n) (j + 1 + t)) (sym (lt-leb n (j + 1 + t) h))

pub span_stands : (n j t : ℕ) → Stands n j t (span_at n j t)
span_stands n j t =
    record {
      case =
          ⊎_elim
          (λ (l : j + 1 + t < n). inr (l, sym (span_ahead n j t l)))
          (λ (l : n ≤ j + 1 + t). inl (l, omega (arith, span_round n j t l)))
          (less_or_not (j + 1 + t) n);
    }

module _ (n j : ℕ) (cut : j < n) where
  pub place_below : (v : ℕ) → v < n → steps n (j + 1) v < n
  place_below v h = ⊎_elim (λ w. omega (arith, w.1)) (λ w. omega (arith, w.1, w.0)) (steps_lead n (j + 1) v (omega arith)).case

  pub places_differ : (u v : ℕ) → u < n → v < n → steps n (j + 1) u ≡ steps n (j + 1) v → u ≡ v
  places_differ u v hu hv e =
      ⊎_elim
      (λ w. ⊎_elim (λ x. omega (arith, w.1, x.1)) (λ x. omega (arith, w.1, w.0, x.1, x.0)) (steps_lead n (j + 1) v (omega arith)).case)
      (λ w. ⊎_elim (λ x. omega (arith, w.1, w.0, x.1, x.0)) (λ x. omega (arith, w.1, x.1)) (steps_lead n (j + 1) v (omega arith)).case)
      (steps_lead n (j + 1) u (omega arith)).case

  pub span_below : (t : ℕ) → t + 1 < n → span_at n j t < n
  span_below t h = ⊎_elim (λ w. omega (arith, w.1)) (λ w. omega (arith, w.1, w.0)) (span_stands n j t).case

  pub place_of_span : (t : ℕ) → t + 1 < n → steps n (j + 1) (span_at n j t) ≡ t
  place_of_span t h =
      ⊎_elim
      (λ w. ⊎_elim (λ x. omega (arith, w.1, w.0, x.1, x.0)) (λ x. omega (arith, w.1, x.1)) (steps_lead n (j + 1) (span_at n j t) (omega arith)).case)
      (λ w. ⊎_elim (λ x. omega (arith, w.1, x.1)) (λ x. omega (arith, w.1, w.0, x.1, x.0)) (steps_lead n (j + 1) (span_at n j t) (omega arith)).case)
      (span_stands n j t).case

  pub span_of_place : (s : ℕ) → s < n → (s ≡ j → ⊥) → (steps n (j + 1) s + 1 < n) × (span_at n j (steps n (j + 1) s) ≡ s)
  span_of_place s h ne =
      ⊎_elim
      (λ w. (omega (arith, w.1, w.0), ⊎_elim (λ x. omega (arith, w.1, w.0, x.1, x.0)) (λ x. omega (arith, w.1, x.1)) (span_stands n j (steps n (j + 1) s)).case))
      (λ w. (omega (arith, w.1, w.0), ⊎_elim (λ x. omega (arith, w.1, x.1)) (λ x. omega (arith, w.1, w.0, x.1, x.0)) (span_stands n j (steps n (j + 1) s)).case))
      (steps_lead n (j + 1) s (omega arith)).case
