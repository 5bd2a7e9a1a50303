-- Every ℤ is two naturals, one of them 0: how far it lies above 0 and how far below, z = up z − dn z.
-- A sum, a difference and a negative have their parts from the parts of what they are made of; so what is said over ℤ is said over ℕ, where omega
-- proves it. Assumes nothing.
use Rattle.std.specs.Prelude.{◌≡◌, refl, Bool, true, false, cond, ℕ, zero, suc, ◌+◌, ◌-◌, ◌≤◌, min, T, ltb, ℤ, pos, negsuc, neg_ℤ, nat_abs, ◌+ℤ◌, ◌-ℤ◌}
use Rattle.std.proofs.Common.{arith, ltb-true, ltb-false}
use Rattle.std.proofs.Math.IntN.{sub_ℕ}
use Rattle.std.specs.Int.Signed.{non_neg}

abbrev pub up : ℤ → ℕ
up (pos n) = n
up (negsuc n) = 0

abbrev pub dn : ℤ → ℕ
dn (pos n) = 0
dn (negsuc n) = suc n

-- omega takes `up z` and `dn z` for two unknowns: this says that one of them is 0
pub apart : (z : ℤ) → min (up z) (dn z) ≡ 0
apart (pos n) = omega arith
apart (negsuc n) = omega arith

-- s is p − m, and has no part that was not put in
pub record Net (p m : ℕ) (s : ℤ) : Type 0 where
  pub bal : up s + m ≡ dn s + p
  pub top : up s ≤ p
  pub bot : dn s ≤ m

-- s is a + b
abbrev pub Sum : ℤ → ℤ → ℤ → Type 0
Sum a b s = Net (up a + up b) (dn a + dn b) s

-- s is a − b: b's parts change sides
abbrev pub Dif : ℤ → ℤ → ℤ → Type 0
Dif a b s = Net (up a + dn b) (dn a + up b) s

-- s is −z: the parts change places
pub record Neg (z s : ℤ) : Type 0 where
  pub rise : up s ≡ dn z
  pub fall : dn s ≡ up z

net : (p m : ℕ) → Net p m (sub_ℕ p m)
net p m = go (ltb p m) refl
  where
    go : (t : Bool) → ltb p m ≡ t → Net p m (cond t (negsuc (m - suc p)) (pos (p - m)))
    go true e = omega (arith, ltb-true p m e)
    go false e = omega (arith, ltb-false p m e)

pub sum : (a b : ℤ) → Sum a b (a +ℤ b)
sum (pos a) (pos b) = omega arith
sum (pos a) (negsuc b) = omega (arith, net a (suc b))
sum (negsuc a) (pos b) = omega (arith, net b (suc a))
sum (negsuc a) (negsuc b) = omega arith

turned : (z : ℤ) → Neg z (neg_ℤ z)
turned (pos zero) = omega arith
turned (pos (suc n)) = omega arith
turned (negsuc n) = omega arith

pub dif : (a b : ℤ) → Dif a b (a -ℤ b)
dif a b = omega (arith, sum a (neg_ℤ b), turned b)

-- `-x` in the code is `pos 0 -ℤ x`
pub neg : (z : ℤ) → Neg z (pos 0 -ℤ z)
neg z = omega (arith, dif (pos 0) z, apart z, apart (pos 0 -ℤ z))

-- `x as u64` in the code is `nat_abs x`, and asks `non_neg x`
pub abs : (z : ℤ) → nat_abs z ≡ up z + dn z
abs (pos n) = omega arith
abs (negsuc n) = omega arith

pub not_below : (z : ℤ) → dn z ≡ 0 → T (non_neg z)
not_below (pos n) h = tt
not_below (negsuc n) h = absurd (omega arith)
