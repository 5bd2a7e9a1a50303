-- Prices may be cut down to a cap that no profit exceeds, and the certificate still holds. A cell with a price had one before, and a
-- candidate's fare does not rise and keeps what it had up to the cap, which is as far as its profit reaches. Assumes nothing.
use Rattle.std.specs.Prelude.{Bool, true, false, ℕ, zero, suc, ◌≤◌, ◌<◌, min}
use Rattle.std.proofs.Common.{arith}
use Rattle.base_sums.specs.Sums.{Σ, when, Σ-le, when_upto}
use Rattle.law_row.specs.Row.{Row, covers, fare, Tight}

-- each price, but no more than the cap
unfoldable pub clamp : ℕ → (ℕ → ℕ) → ℕ → ℕ
clamp cap y j = min cap (y j)

-- where each term keeps what it has up to the cap, so does the sum
sum_keeps : (n : ℕ) (f g : ℕ → ℕ) (cap : ℕ) → ((j : ℕ) → j < n → min cap (f j) ≤ g j) → min cap (Σ n f) ≤ Σ n g
unfolding Σ
sum_keeps zero f g cap h = omega arith
sum_keeps (suc n) f g cap h = omega (arith, sum_keeps n f g cap (λ j l. h j (omega arith)), h n (omega arith))

-- one cell's part of a fare, t where the candidate is over it
part_keeps : (t : Bool) (cap p : ℕ) → min cap (when t p) ≤ when t (min cap p)
part_keeps true cap p = omega arith
part_keeps false cap p = omega arith

module _ (row : Row) (y : ℕ → ℕ) (cap i : ℕ) where
  fare_keeps : min cap (fare row y i) ≤ fare row (clamp cap y) i
  unfolding fare clamp
  fare_keeps = sum_keeps row.cells _ _ cap (λ j l. part_keeps (covers row i j) cap (y j))

  fare_falls : fare row (clamp cap y) i ≤ fare row y i
  unfolding fare clamp
  fare_falls = Σ-le row.cells _ _ (λ j l. when_upto (covers row i j) (min cap (y j)) (y j) (omega arith))

pub clamped : (row : Row) (x : ℕ → Bool) (y : ℕ → ℕ) (cap : ℕ) → ((i : ℕ) → i < row.count → row.profit i ≤ cap) → Tight row x y → Tight row x (clamp cap y)
unfolding clamp
clamped row x y cap small t = record {
  full = λ j l priced. t.full j l (omega arith);
  paid = λ i l kept. omega (arith, fare_falls row y cap i, t.paid i l kept);
  dropped = λ i l left. omega (arith, fare_keeps row y cap i, small i l, t.dropped i l left);
}
