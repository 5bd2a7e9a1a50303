-- Distances and costs are at most 0, so each is known by its depth, and what the code computes on them is said here of depths: a candidate's
-- gain, and the loop over the nodes, by what it has done before node v. Nothing leaves the range of i64. Assumes nothing.
use Rattle.std.specs.Prelude.{◌≡◌, refl, true, false, List, ℕ, suc, ◌+◌, ◌*◌, ◌-◌, ◌≤◌, ◌<◌, T, ℤ, pos, nat_abs, ◌-ℤ◌, get_or, length, set}
use Rattle.std.proofs.Math.Path.{ap}
use Rattle.std.proofs.Common.{◌∙◌, arith, length-set, Fits, to_z}
use Rattle.std.proofs.Math.Logic.{⊎_elim}
use Rattle.std.specs.Int.Signed.{non_neg, le_z}
use Rattle.std.specs.Int.{w64}
use Rattle.std.proofs.Math.Facts.{to_z_pos}
use Rattle.base_signed.specs.Bits.{ReadsAs, Within, rd, taken, minus, within, back}
use Rattle.base_signed.specs.Parts.{up, dn, Dif, dif, abs, apart, not_below}
use Rattle.base_signed.specs.Tests.{le_z_true, le_z_false}
use Rattle.base_sums.specs.At.{Stored, store}
use Rattle.base_sums.specs.Each.{same_or_not}
use Rattle.law_flow.specs.Raise.{raised}
use Rattle.plan_insert.specs.State.{at, depth, lowest, Gains, Deepened, Below}

-- ---- a candidate's gain

-- the gain, and how the code makes it
abbrev gain : ℤ → ℤ → ℤ → ℤ
gain cost near far = far -ℤ near -ℤ cost

abbrev made : ℤ → ℤ → ℤ → ℤ
made cost near far = rd (rd far -ℤ rd near) -ℤ rd cost

module _ {cost near far : ℤ} (g : Gains cost near far) where
  pub first_part : ReadsAs (rd far -ℤ rd near) (far -ℤ near)
  first_part = taken {b = lowest} far near (omega arith) (omega arith) (omega arith)

  pub gain_made : ReadsAs (made cost near far) (gain cost near far)
  gain_made =
      minus
      (far -ℤ near)
      cost
      first_part.again
      (back (within cost 1000000 (omega arith) (omega arith)))
      (within _ (2 * lowest) (omega arith) (omega (arith, dif far near, dif (far -ℤ near) cost)))

  above : up (gain cost near far) ≡ dn near + dn cost - dn far
  above = omega (arith, dif far near, dif (far -ℤ near) cost, apart (far -ℤ near -ℤ cost))

  -- the test turns a gain of 0 down
  pub none_gained : le_z (rd (made cost near far)) (pos 0) ≡ true → 0 ≡ dn near + dn cost - dn far
  none_gained t = omega (arith, above, apart (gain cost near far), le_z_true (gain cost near far) (pos 0) (rw gain_made.again at t))

  module _ (t : le_z (rd (made cost near far)) (pos 0) ≡ false) where
    positive : dn (gain cost near far) ≡ 0
    positive = omega (arith, apart (gain cost near far), le_z_false (gain cost near far) (pos 0) (rw gain_made.again at t))

    pub gain_counts : T (non_neg (rd (made cost near far))) × Fits w64 (nat_abs (rd (made cost near far)))
    gain_counts = rw gain_made.again (not_below (gain cost near far) positive, omega (arith, abs (gain cost near far), positive, above))

    pub gained : nat_abs (rd (made cost near far)) ≡ dn near + dn cost - dn far
    gained = rw gain_made.again (omega (arith, abs (gain cost near far), positive, above))

-- ---- every node deepened by what its label lacks

-- the nodes before v are deepened, those from v on are as before
pub record DeepenedTo (v cells to : ℕ) (label : List ℕ) (dist₀ dist : List ℤ) : Type 0 where
  pub long : length dist ≡ 128
  pub not_above : (w : ℕ) → w ≤ cells → up (get_or dist w (pos 0)) ≡ 0
  pub deeper : (w : ℕ) → w < v → w ≤ cells → depth dist w ≡ raised to (depth dist₀) (at label) w
  pub rest : (w : ℕ) → v ≤ w → get_or dist w (pos 0) ≡ get_or dist₀ w (pos 0)

pub deepened_none : {cells to : ℕ} {label : List ℕ} {dist : List ℤ} → length dist ≡ 128 → Below dist (suc cells) lowest → DeepenedTo 0 cells to label dist dist
deepened_none long below = record { long = long; not_above = λ w h. below.not_above w (omega arith); deeper = λ w h. absurd (omega arith); rest = λ w h. refl }

module _ {v cells to : ℕ} {label : List ℕ} {dist₀ dist : List ℤ} (small : (cells ≤ 127) × (to ≤ 1000000)) (below : Below dist₀ (suc cells) lowest) (done : DeepenedTo v cells to label dist₀ dist) (l : v ≤ cells) where
  -- whatever is done at v alone and deepens v by what it lacks
  next : {dist' : List ℤ} → length dist' ≡ 128 → up (get_or dist' v (pos 0)) ≡ 0 → depth dist' v ≡ depth dist v + (to - at label v) → ((w : ℕ) → (w ≡ v → ⊥) → get_or dist' w (pos 0) ≡ get_or dist w (pos 0)) → DeepenedTo (v + 1) cells to label dist₀ dist'
  unfolding raised
  next {dist'} long up_none deep same = record {
    long = long;
    not_above = λ w h. ⊎_elim (λ (q : w ≡ v). rw q up_none) (λ n. ap up (same w n) ∙ done.not_above w h) (same_or_not w v);
    deeper = λ w h k. ⊎_elim (λ (q : w ≡ v). rw q (omega (arith, deep, ap dn (done.rest v (omega arith))))) (λ n. ap dn (same w n) ∙ done.deeper w (omega arith) k) (same_or_not w v);
    rest = λ w h. same w (λ q. omega arith) ∙ done.rest w (omega arith);
  }

  pub deepened_kept : to ≤ at label v → DeepenedTo (v + 1) cells to label dist₀ dist
  deepened_kept far = next done.long (done.not_above v l) (omega arith) (λ w n. refl)

  -- the distance of v, less what v lacks
  abbrev low : ℤ
  low = get_or dist v (pos 0) -ℤ pos (to - at label v)

  low_parts : Dif (get_or dist v (pos 0)) (pos (to - at label v)) low
  low_parts = dif (get_or dist v (pos 0)) (pos (to - at label v))

  old_within : Within lowest (get_or dist v (pos 0))
  old_within = rw (done.rest v (omega arith)) (omega (arith, below.not_above v (omega arith), below.upto v (omega arith)))

  pub lowered : ReadsAs (rd (get_or dist v (pos 0)) -ℤ to_z w64 (to - at label v)) (get_or dist v (pos 0) -ℤ pos (to - at label v))
  lowered =
      minus
      (get_or dist v (pos 0))
      (pos (to - at label v))
      (back (within _ lowest (omega arith) old_within))
      (to_z_pos w64 (omega arith))
      (within low (lowest + 1000000) (omega arith) (omega (arith, low_parts, old_within)))

  pub deepened_lowered : DeepenedTo (v + 1) cells to label dist₀ (set dist v (rd (rd (get_or dist v (pos 0)) -ℤ to_z w64 (to - at label v))))
  deepened_lowered =
      rw lowered.again (next
      (rw length-set done.long)
      (ap up (stored.here v refl) ∙ omega (arith, low_parts, apart low, done.not_above v l))
      (ap dn (stored.here v refl) ∙ omega (arith, low_parts, apart low, done.not_above v l))
      stored.elsewhere)
    where
      stored : Stored (pos 0) dist v low (set dist v low)
      stored = store (pos 0) dist v low (omega (arith, done.long))

-- past the last node
pub deepened-all : {v cells to : ℕ} {label : List ℕ} {dist₀ dist : List ℤ} → DeepenedTo v cells to label dist₀ dist → cells < v → Deepened cells to label dist₀ dist
deepened-all done l = record { not_above = done.not_above; deeper = λ w h. done.deeper w (omega arith) h }
