-- A search's labels and ranks are laid out node by node: those before v are done. At the end b alone is given the label 0. Assumes nothing.
use Rattle.std.specs.Prelude.{List, ◌≡◌, refl, ℕ, suc, ◌+◌, ◌≤◌, ◌<◌, length, set}
use Rattle.std.proofs.Common.{◌∙◌, arith, length-set}
use Rattle.base_sums.specs.At.{Stored, store}
use Rattle.base_sums.specs.Filled.{Filled, filled_none, filled_more}
use Rattle.plan_insert.specs.State.{Fresh}

pub record LaidOut (cells most v : ℕ) (label rank : List ℕ) : Type 0 where
  pub reach : v ≤ suc cells
  pub labels : length label ≡ 128
  pub ranks : length rank ≡ 128
  pub far : Filled (λ w. most) v label
  pub still : Filled (λ w. 0) v rank

pub laid_none : {cells most : ℕ} {label rank : List ℕ} → length label ≡ 128 → length rank ≡ 128 → LaidOut cells most 0 label rank
laid_none labels ranks = record { reach = omega arith; labels = labels; ranks = ranks; far = filled_none _ _; still = filled_none _ _ }

module _ {cells most v : ℕ} {label rank : List ℕ} (small : cells ≤ 127) (l : LaidOut cells most v label rank) where
  pub laid_more : v ≤ cells → LaidOut cells most (v + 1) (set label v most) (set rank v 0)
  laid_more inside = record {
    reach = omega arith;
    labels = length-set label v most ∙ l.labels;
    ranks = length-set rank v 0 ∙ l.ranks;
    far = filled_more most l.far (omega (arith, l.labels)) refl;
    still = filled_more 0 l.still (omega (arith, l.ranks)) refl;
  }

  pub laid_out : {b : ℕ} → cells < v → b ≤ cells → Fresh cells b most (set label b 0) rank
  laid_out {b} past inside = record {
    root = rooted.here b refl;
    others = λ w i n. rooted.elsewhere w n ∙ l.far.is w (omega arith);
    still = λ w i. l.still.is w (omega arith);
  }
    where
      rooted : Stored 0 label b 0 (set label b 0)
      rooted = store 0 label b 0 (omega (arith, l.labels))
