-- No kept set within the limits is worth more than the ceiling of any prices, and a tight one is worth exactly the ceiling of its prices.
-- What is kept costs, cell by cell, the load times the price; and a kept profit is at most its fare and what it has above its fare, with
-- equality where the certificate holds. Assumes nothing.
use Rattle.std.specs.Prelude.{◌≡◌, refl, Bool, true, false, ◌&&◌}
use Rattle.std.proofs.Math.Path.{ap}
use Rattle.std.proofs.Common.{◌∙◌, mul_comm, eq-zero-or-pos}
use Rattle.std.proofs.Math.Logic.{⊎_elim}
use Prim.Native.Nat.{ℕ, ◌+◌, ◌*◌, ◌-◌, ◌≤◌, ◌<◌}
use Rattle.std.proofs.Math.Nat.{mul-le-mul_right}
use native.Mathlib.Omega.{arith}
use Rattle.base_sums.specs.Sums.{Σ, when, Σ-ext, Σ-le, Σ-add, Σ-mul, Σ-swap, when_bit, when_and, when_Σ}
use Rattle.law_row.specs.Row.{Row, covers, load, worth, fare, ceiling, WithinLimits, Tight}

-- one candidate: a profit p and a fare c, kept or not
most : (kept : Bool) (p c : ℕ) → when kept p ≤ p - c + when kept c
most true p c = omega arith
most false p c = omega arith

just : (kept : Bool) (p c : ℕ) → (kept ≡ true → c ≤ p) → (kept ≡ false → p ≤ c) → when kept p ≡ p - c + when kept c
just true p c paid dropped = omega (arith, paid refl)
just false p c paid dropped = omega (arith, dropped refl)

module _ (row : Row) (x : ℕ → Bool) (y : ℕ → ℕ) where
  -- both sides count the price of cell j once for each kept candidate over it
  pub exchange : Σ row.count (λ i. when (x i) (fare row y i)) ≡ Σ row.cells (λ j. load row x j * y j)
  unfolding load fare
  exchange = Σ-ext row.count _ _ (λ i l. over i) ∙ Σ-swap row.count row.cells share ∙ Σ-ext row.cells _ _ (λ j l. at j)
    where
      share : ℕ → ℕ → ℕ
      share i j = when (x i && covers row i j) (y j)

      over : (i : ℕ) → when (x i) (fare row y i) ≡ Σ row.cells (λ j. share i j)
      over i = simp (when_Σ, when_and)

      at : (j : ℕ) → Σ row.count (λ i. share i j) ≡ load row x j * y j
      at j = Σ-ext row.count _ _ (λ i l. when_bit (x i && covers row i j) (y j)) ∙ Σ-mul row.count (y j) _ ∙ mul_comm (y j) _

  -- what a candidate has above its fare, and its fare if it is kept: in sum the ceiling, with the loads for the limits
  abbrev bound : ℕ → ℕ
  bound i = row.profit i - fare row y i + when (x i) (fare row y i)

  bounds : Σ row.count bound ≡ Σ row.cells (λ j. load row x j * y j) + Σ row.count (λ i. row.profit i - fare row y i)
  bounds = omega (arith, exchange, Σ-add row.count (λ i. row.profit i - fare row y i) (λ i. when (x i) (fare row y i)))

  pub weak : WithinLimits row x → worth row x ≤ ceiling row y
  unfolding worth ceiling
  weak within =
      omega (
        arith,
        bounds,
        Σ-le row.count _ bound (λ i l. most (x i) (row.profit i) (fare row y i)),
        Σ-le row.cells (λ j. load row x j * y j) _ (λ j l. mul-le-mul_right (y j) (within.holds j l)),
      )

  pub tight : Tight row x y → worth row x ≡ ceiling row y
  unfolding worth ceiling
  tight t =
      omega (
        arith,
        bounds,
        Σ-ext row.count _ bound (λ i l. just (x i) (row.profit i) (fare row y i) (t.paid i l) (t.dropped i l)),
        Σ-ext row.cells (λ j. load row x j * y j) (λ j. row.limit j * y j) filled,
      )
    where
      filled : (j : ℕ) → j < row.cells → load row x j * y j ≡ row.limit j * y j
      filled j l = ⊎_elim (λ (free : y j ≡ 0). rw free (omega arith)) (λ priced. ap (λ (c : ℕ). c * y j) (t.full j l priced)) (eq-zero-or-pos (y j))
