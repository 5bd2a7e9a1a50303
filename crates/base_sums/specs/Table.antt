-- A list made from its entries: the entry at place i is f i. Assumes nothing.
use Rattle.std.specs.Prelude.{◌≡◌, List, [], ◌∷◌, length, get_or}
use Rattle.std.proofs.Math.Path.{refl, ap}
use Prim.Native.Nat.{ℕ, zero, suc, ◌<◌}
use Rattle.std.proofs.Common.{arith}

module _ {ℓ} {A : Type ℓ} where
  unfoldable pub table : ℕ → (ℕ → A) → List A
  table zero f = []
  table (suc n) f = f 0 ∷ table n (λ i. f (suc i))

  pub length_table : (n : ℕ) (f : ℕ → A) → length (table n f) ≡ n
  unfolding table
  length_table zero f = refl
  length_table (suc n) f = ap suc (length_table n (λ i. f (suc i)))

  pub table_at : (n : ℕ) (f : ℕ → A) (i : ℕ) (d : A) → i < n → get_or (table n f) i d ≡ f i
  unfolding table
  table_at zero f i d h = absurd (omega arith)
  table_at (suc n) f zero d h = refl
  table_at (suc n) f (suc i) d h = table_at n (λ j. f (suc j)) i d (omega arith)
