-- Among the numbers below a bound that is not 0 there is one at which a function is greatest. Assumes nothing.
use Rattle.std.specs.Prelude.{◌≡◌, ℕ, zero, suc, ◌≤◌, ◌<◌}
use Rattle.std.proofs.Common.{subst, sym, ⊎_elim, eq-or-lt_of_le, le_of_suc-le-suc, eq-zero-or-pos, arith}
use Rattle.base_sums.specs.Each.{less_or_not}

pub record Greatest (n : ℕ) (f : ℕ → ℕ) (j : ℕ) : Type 0 where
  pub below : j < n
  pub most : (i : ℕ) → i < n → f i ≤ f j

pub greatest : (n : ℕ) (f : ℕ → ℕ) → 0 < n → (j : ℕ) × Greatest n f j
greatest zero f h = absurd (omega arith)
greatest (suc n) f h = ⊎_elim (λ (z : n ≡ 0). alone z) (λ (l : 0 < n). more (greatest n f l)) (eq-zero-or-pos n)
  where
    alone : n ≡ 0 → (j : ℕ) × Greatest (suc n) f j
    alone z = (0, record { below = omega arith; most = λ i l. let q : i ≡ 0 = omega arith in subst (λ (k : ℕ). f k ≤ f 0) (sym q) (omega arith) })

    more : (j : ℕ) × Greatest n f j → (j : ℕ) × Greatest (suc n) f j
    more w =
        let j = w.0 in
        let g = w.1 in
        ⊎_elim
        (λ (l : f j < f n). (n, record { below = omega arith; most = λ i h. ⊎_elim (λ (q : i ≡ n). subst (λ (k : ℕ). f k ≤ f n) (sym q) (omega arith)) (λ (k : i < n). omega (arith, g.most i k)) (eq-or-lt_of_le (le_of_suc-le-suc h)) }))
        (λ (l : f n ≤ f j). (j, record { below = omega (arith, g.below); most = λ i h. ⊎_elim (λ (q : i ≡ n). subst (λ (k : ℕ). f k ≤ f j) (sym q) l) (λ (k : i < n). g.most i k) (eq-or-lt_of_le (le_of_suc-le-suc h)) }))
        (less_or_not (f j) (f n))
