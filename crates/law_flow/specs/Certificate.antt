-- What the insertion method keeps true holds at the start, goes on over a candidate that is not worth its prices, and is the certificate at
-- the end. The prices along an interval add up to what its last node lies deeper than its first, so that a kept candidate is worth them and
-- a dropped one not more; and a cell with room has no price. Assumes nothing.
use Rattle.std.specs.Prelude.{◌≡◌, Bool, true, false, ◌&&◌, ℕ, zero, suc, ◌+◌, ◌≤◌, ◌<◌}
use Rattle.std.proofs.Common.{sym, ◌∙◌, ⊎_elim, eq-or-lt_of_le, le_of_suc-le-suc, eq-zero-or-pos, arith}
use Rattle.base_sums.specs.Each.{of_yes}
use Rattle.base_sums.specs.Sums.{Σ, bit, Σ-ext}
use Rattle.law_row.specs.Row.{Row, covers, load, fare, WithinLimits, Tight}
use Rattle.law_row.specs.Along.{fare_along}
use Rattle.law_flow.specs.Balanced.{Proper, load_to, Deep, Balanced, price_at}

-- ---- prices along an interval

-- where N rises, the prices of the cells below node n add up to how much deeper than node 0 it lies
depth : (N : ℕ → ℕ) (n : ℕ) → ((j : ℕ) → j < n → N j ≤ N (suc j)) → Σ n (price_at N) + N 0 ≡ N n
unfolding Σ price_at
depth N zero rises = omega arith
depth N (suc n) rises = omega (arith, depth N n (λ j l. rises j (omega arith)), rises n (omega arith))

-- what candidate i pays is what its last node lies deeper than its first
pub fare_depth : (row : Row) {N : ℕ → ℕ} → ((j : ℕ) → j < row.cells → N j ≤ N (suc j)) → (i : ℕ) → row.lo i ≤ row.hi i → row.hi i ≤ row.cells → fare row (price_at N) i + N (row.lo i) ≡ N (row.hi i)
fare_depth row {N} rises i ordered inside =
    omega (
      arith,
      fare_along row (price_at N) i ordered inside,
      depth N (row.lo i) (λ j l. rises j (omega arith)),
      depth N (row.hi i) (λ j l. rises j (omega arith)),
    )

-- ---- at the start and at the end

pub empty_balanced : {row : Row} {x : ℕ → Bool} {s N : ℕ → ℕ} → ((j : ℕ) → j < row.cells → s j ≡ row.limit j) → ((j : ℕ) → j < row.cells → N j ≤ N (suc j)) → ((j : ℕ) → j < row.cells → 0 < s j → N (suc j) ≤ N j) → Balanced row 0 x s N
unfolding load_to Σ
empty_balanced free rises level = record {
  room = λ j l. omega (arith, free j l);
  deep = record {
    rises = rises;
    level = level;
    paid = λ i l k. absurd (omega arith);
    dropped = λ i l k. absurd (omega arith);
  };
}

pub balanced_within : {row : Row} {x : ℕ → Bool} {s N : ℕ → ℕ} → Balanced row row.count x s N → WithinLimits row x
unfolding load load_to
balanced_within b = record { holds = λ j l. omega (arith, b.room j l) }

pub balanced_tight : {row : Row} {x : ℕ → Bool} {s N : ℕ → ℕ} → Proper row row.count → Balanced row row.count x s N → Tight row x (price_at N)
unfolding load load_to price_at
balanced_tight {row} {x} {s} {N} p b = record {
  full = λ j l priced. ⊎_elim (λ (none : s j ≡ 0). omega (arith, b.room j l)) (λ spare. absurd (omega (arith, b.deep.level j l spare))) (eq-zero-or-pos (s j));
  paid = λ i l kept. omega (arith, spent i l, b.deep.paid i l kept);
  dropped = λ i l left. omega (arith, spent i l, b.deep.dropped i l left);
}
  where
    spent : (i : ℕ) → i < row.count → fare row (price_at N) i + N (row.lo i) ≡ N (row.hi i)
    spent i l = fare_depth row b.deep.rises i (omega (arith, p.some_cell i l)) (p.in_row i l)

-- ---- one candidate more

-- the new candidate need only answer for itself
pub deep_more : {row : Row} {t : ℕ} {x x' : ℕ → Bool} {s N : ℕ → ℕ} → Deep row t x s N → ((i : ℕ) → i < t → x' i ≡ x i) →
    (x' t ≡ true → N (row.hi t) ≤ N (row.lo t) + row.profit t) → (x' t ≡ false → N (row.lo t) + row.profit t ≤ N (row.hi t)) → Deep row (suc t) x' s N
deep_more {row} {t} {x} {x'} {s} {N} d same paid dropped = record {
  rises = d.rises;
  level = d.level;
  paid = λ i l kept. ⊎_elim (λ (q : i ≡ t). rw q (paid (rw q at kept))) (λ h. d.paid i h (sym (same i h) ∙ kept)) (eq-or-lt_of_le (le_of_suc-le-suc l));
  dropped = λ i l left. ⊎_elim (λ (q : i ≡ t). rw q (dropped (rw q at left))) (λ h. d.dropped i h (sym (same i h) ∙ left)) (eq-or-lt_of_le (le_of_suc-le-suc l));
}

-- not worth its prices, it is dropped, and nothing else changes
pub dropped_at_once : {row : Row} {t : ℕ} {x x' : ℕ → Bool} {s N : ℕ → ℕ} → Balanced row t x s N → ((i : ℕ) → i < t → x' i ≡ x i) → x' t ≡ false → N (row.lo t) + row.profit t ≤ N (row.hi t) → Balanced row (suc t) x' s N
unfolding load_to Σ
dropped_at_once {row} {t} {x} {x'} {s} b same left dear = record {
  room = λ j l. rw left (omega (arith, b.room j l, Σ-ext t (λ i. bit (x' i && covers row i j)) (λ i. bit (x i && covers row i j)) (λ i h. rw (same i h))));
  deep = deep_more b.deep same (λ kept. absurd (of_yes (sym left ∙ kept))) (λ e. dear);
}
