-- When bytes are all 0: each of them is, and one that is not is enough against it. Assumes nothing.
use Rattle.std.specs.Prelude.{◌≡◌, true, false, List, ℕ, ◌+◌, ◌*◌, ◌<◌}
use Rattle.std.proofs.Common.{⊎_elim}
use native.Mathlib.Omega.{arith}
use borrow.Author.Tests.{eqb-true, eq-eqb, ne_eqb}
use Rattle.std.proofs.Math.Dec.{eqb}
use Rattle.base_sums.specs.Each.{each_at, each_of, same_or_not, same_test}
use Rattle.base_sums.specs.Turns.{each_fails}
use Rattle.paper_book.specs.Bytes.{byte, two, four, blank}

pub all_blank : (f : List ℕ) (at n : ℕ) → ((i : ℕ) → i < n → byte f (at + i) ≡ 0) → blank f at n ≡ true
unfolding blank
all_blank f at n h = each_of n (λ i. eqb (byte f (at + i)) 0) (λ i l. eq-eqb _ 0 (h i l))

pub not_blank : (f : List ℕ) (at n i : ℕ) → i < n → (byte f (at + i) ≡ 0 → ⊥) → blank f at n ≡ false
unfolding blank
not_blank f at n i l h = each_fails n (λ i. eqb (byte f (at + i)) 0) i l (ne_eqb _ 0 h)

-- four bytes are all 0 exactly if their number is
module _ (f : List ℕ) (at : ℕ) where
  number : four f at ≡ (byte f at * 256 + byte f (at + 1)) * 65536 + (byte f (at + 2) * 256 + byte f (at + 3))
  unfolding four two
  number = let third : at + 2 + 1 ≡ at + 3 = omega arith in rw third

  zeros : four f at ≡ 0 → (i : ℕ) → i < 4 → byte f (at + i) ≡ 0
  zeros e i l =
      ⊎_elim (λ (q : i ≡ 0). let here : at + i ≡ at = omega arith in rw here (omega (arith, number)))
      (λ n. ⊎_elim (λ (q : i ≡ 1). rw q (omega (arith, number)))
      (λ m. ⊎_elim (λ (q : i ≡ 2). rw q (omega (arith, number))) (λ k. let last : i ≡ 3 = omega arith in rw last (omega (arith, number))) (same_or_not i 2))
      (same_or_not i 1))
      (same_or_not i 0)

  sum : ((i : ℕ) → i < 4 → byte f (at + i) ≡ 0) → four f at ≡ 0
  sum z =
      let here : at + 0 ≡ at = omega arith in
      let first : byte f at ≡ 0 = rw here at (z 0 (omega arith)) in
      omega (arith, number, first, z 1 (omega arith), z 2 (omega arith), z 3 (omega arith))

  pub four_is_blank : eqb (four f at) 0 ≡ blank f at 4
  unfolding blank
  four_is_blank =
      same_test (λ e. all_blank f at 4 (zeros (eqb-true _ 0 e))) (λ e. eq-eqb (four f at) 0 (sum (λ i l. eqb-true _ 0 (each_at 4 (λ i. eqb (byte f (at + i)) 0) e i l))))
