-- A value of type i64 that the code holds is its bits, read back: `rd z`, which is z where z fits. Here is what fits, by one bound on both
-- parts of `Parts`, and what a sum and a difference of two values that were read back come to. Assumes nothing.
use Rattle.std.specs.Prelude.{◌≡◌, ℕ, ◌+◌, ◌^◌, ◌≤◌, ◌<◌, ℤ, pos, negsuc, ◌+ℤ◌, ◌-ℤ◌}
use Rattle.std.proofs.Common.{sym, ap, ap₂, subst, ◌∙◌, arith, SFits, to_z, of_z, to_z-of_z}
use Rattle.std.specs.Int.Signed.{mag}
use Rattle.std.specs.Int.{w64}
use Rattle.base_signed.specs.Parts.{up, dn, dif}

-- z lies between −b and b: the form for bounds in contracts
pub record Within (b : ℕ) (z : ℤ) : Type 0 where
  pub high : up z ≤ b
  pub low : dn z ≤ b

pub within : (z : ℤ) (b : ℕ) → b < 2 ^ 63 → Within b z → SFits w64 z
within (pos n) b l h = omega arith
within (negsuc n) b l h = omega arith

-- whatever fits is bounded so
pub reach : (z : ℤ) → SFits w64 z → Within (2 ^ 63) z
reach (pos n) f = omega arith
reach (negsuc n) f = omega arith

-- what the code knows of an element that it loaded (`.given`) and of a result that it was handed (`.ok`)
pub known : (z : ℤ) → mag z < 2 ^ 63 → SFits w64 z
known z h = record { sfits = h }

-- z, written as bits and read back
abbrev pub rd : ℤ → ℤ
rd z = to_z w64 (of_z w64 z)

pub back : {z : ℤ} → SFits w64 z → rd z ≡ z
back f = to_z-of_z f

-- ---- what the code makes of values that it read back

-- `made`, which the code computes, is z, and z fits
pub record ReadsAs (made z : ℤ) : Type 0 where
  pub is : made ≡ z
  pub fits : SFits w64 made
  pub ok : SFits w64 z
  pub again : rd made ≡ z

pub reads : {made z : ℤ} → made ≡ z → SFits w64 z → ReadsAs made z
reads e f = record { is = e; fits = subst (SFits w64) (sym e) f; ok = f; again = ap rd e ∙ back f }

-- a sum and a difference of what the code holds: p and q are `rd x` (by `back`), an earlier `rd made` (by `again`), or a local's bits as they stand
pub plus : {p q : ℤ} (x y : ℤ) → p ≡ x → q ≡ y → SFits w64 (x +ℤ y) → ReadsAs (p +ℤ q) (x +ℤ y)
plus x y e d f = reads (ap₂ ◌+ℤ◌ e d) f

pub minus : {p q : ℤ} (x y : ℤ) → p ≡ x → q ≡ y → SFits w64 (x -ℤ y) → ReadsAs (p -ℤ q) (x -ℤ y)
minus x y e d f = reads (ap₂ ◌-ℤ◌ e d) f

-- the same difference for two values within b
pub taken : {b : ℕ} (x y : ℤ) → b < 2 ^ 62 → Within b x → Within b y → ReadsAs (rd x -ℤ rd y) (x -ℤ y)
taken {b} x y l p q = minus x y (back (within x b (omega arith) p)) (back (within y b (omega arith) q)) (within (x -ℤ y) (b + b) (omega arith) (omega (arith, dif x y)))
