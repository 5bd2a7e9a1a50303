-- Prices along an interval of cells: the cells below its end are those below its start and its own, so its fare is what the prices below its end
-- come to above those below its start. Assumes nothing.
use Rattle.std.specs.Prelude.{◌≡◌, ℕ, zero, suc, ◌+◌, ◌≤◌, ◌<◌, ltb}
use Rattle.std.proofs.Common.{⊎_elim, eq-or-lt_of_le, le_trans, arith, le-leb, lt-ltb, le-ltb}
use Rattle.std.proofs.lemmas.Bool.{lt-leb}
use Rattle.base_sums.specs.Between.{is_between}
use Rattle.base_sums.specs.Each.{less_or_not}
use Rattle.base_sums.specs.Sums.{Σ, when, Σ-ext, Σ-add, when_yes}
use Rattle.law_row.specs.Row.{Row, covers, fare}

-- a sum below k, as a part of one below n
below : (n k : ℕ) (f : ℕ → ℕ) → k ≤ n → Σ n (λ j. when (ltb j k) (f j)) ≡ Σ k f
unfolding Σ
below zero k f l = let q : k ≡ 0 = omega arith in rw q
below (suc n) k f l =
    ⊎_elim
    (λ (q : k ≡ suc n). rw q (Σ-ext (suc n) _ _ (λ j h. when_yes (ltb j (suc n)) (f j) (lt-ltb j (suc n) h))))
    (λ (h : k < suc n). rw (le-ltb n k (omega arith)) (omega (arith, below n k f (omega arith))))
    (eq-or-lt_of_le l)

-- the cells below hi are those below lo and those from lo on
apart : (lo hi j p : ℕ) → lo ≤ hi → when (is_between lo hi j) p + when (ltb j lo) p ≡ when (ltb j hi) p
apart lo hi j p o = ⊎_elim (λ l. rw (lt-leb lo j l, lt-ltb j lo l, lt-ltb j hi (le_trans l o)) (omega arith)) (λ l. rw (le-leb lo j l, le-ltb j lo l) (omega arith)) (less_or_not j lo)

pub fare_along : (row : Row) (y : ℕ → ℕ) (i : ℕ) → row.lo i ≤ row.hi i → row.hi i ≤ row.cells → fare row y i + Σ (row.lo i) y ≡ Σ (row.hi i) y
unfolding fare covers
fare_along row y i ordered inside =
    omega (
      arith,
      Σ-add row.cells (λ j. when (covers row i j) (y j)) (λ j. when (ltb j (row.lo i)) (y j)),
      Σ-ext row.cells _ _ (λ j l. apart (row.lo i) (row.hi i) j (y j) ordered),
      below row.cells (row.lo i) y (le_trans ordered inside),
      below row.cells (row.hi i) y inside,
    )
