-- The arcs along a cell: up, which is always open, and down, which is open where the cell has room. Either costs 0, so its length is what its far
-- end lies deeper, and `relaxing` is the step of the search; where there is no such arc, that stage is done as it is. Assumes nothing.
use Rattle.std.specs.Prelude.{Bool, List, ◌≡◌, refl, ℕ, suc, ◌≤◌, ◌<◌, get_or, ℤ, pos}
use Rattle.std.proofs.Common.{arith}
use Rattle.law_flow.specs.SearchSteps.{up_arc, down_arc, cell_idle, risen, risen_relaxed, bottom_done, cells_done}
use Rattle.plan_insert.specs.State.{at, depth, ground_in, Ready, Marks, Lacks, Tried, Spreads, Nothing, UpDone, CellsDone}
use Rattle.plan_insert.specs.Relaxed.{passing, relaxing}

module _ {cells t : ℕ} {lo hi : List ℕ} {cost : List ℤ} {kept : List Bool} {room : List ℕ} {dist : List ℤ} (ready : Ready cells t lo hi cost kept room dist) where
  -- an arc that costs 0 to a node that lies no less deep
  level_lacks : {u v : ℕ} → u ≤ cells → v ≤ cells → depth dist u ≤ depth dist v → Lacks (pos 0) (get_or dist u (pos 0)) (get_or dist v (pos 0))
  level_lacks {u} {v} i j h = record {
    cost_high = omega arith;
    cost_low = omega arith;
    near_not_above = ready.dists.not_above u (omega arith);
    near_low = ready.dists.upto u (omega arith);
    far_not_above = ready.dists.not_above v (omega arith);
    far_low = ready.dists.upto v (omega arith);
    not_below = omega arith;
  }

  -- ---- up

  pub rise_lacks : {u v : ℕ} → v ≡ suc u → v ≤ cells → Lacks (pos 0) (get_or dist u (pos 0)) (get_or dist v (pos 0))
  rise_lacks {u} q l = rw q (level_lacks (omega arith) (omega arith) (ready.deep.rises u (omega arith)))

  pub rise_relaxed : {most u v : ℕ} {m m' : Marks} → v ≡ suc u → v ≤ cells →
      Tried most (pos 0) (get_or dist u (pos 0)) (get_or dist v (pos 0)) m m' u v 256 →
      Spreads (ground_in cells t lo hi cost kept room dist) most Nothing UpDone u m m'
  rise_relaxed {u = u} {v} q l r =
      relaxing r.len ready.deep ready.proper l r.relaxation (up_arc r.len q l (omega (arith, r.long))) (λ arc less same n. n)
      (λ d near n. risen q (λ i. cell_idle (ground_in cells t lo hi cost kept room dist) d u r.len v (omega (arith, r.long)) near))

  pub rise_top : {most u : ℕ} {m : Marks} → cells ≤ u → Spreads (ground_in cells t lo hi cost kept room dist) most Nothing UpDone u m m
  rise_top h = passing (λ n. risen refl (λ l. absurd (omega arith)))

  -- ---- down

  pub fall_lacks : {u v : ℕ} → u ≡ suc v → u ≤ cells → 0 < at room v → Lacks (pos 0) (get_or dist u (pos 0)) (get_or dist v (pos 0))
  fall_lacks {v = v} q l «open» = rw q (level_lacks (omega arith) (omega arith) (ready.deep.level v (omega arith) «open»))

  pub fall_relaxed : {most u v : ℕ} {m m' : Marks} → u ≡ suc v → u ≤ cells → 0 < at room v →
      Tried most (pos 0) (get_or dist u (pos 0)) (get_or dist v (pos 0)) m m' u v 257 →
      Spreads (ground_in cells t lo hi cost kept room dist) most UpDone CellsDone u m m'
  fall_relaxed {u = u} {v} q l «open» r =
      relaxing r.len ready.deep ready.proper (omega arith) r.relaxation (down_arc r.len q (omega arith) «open» (omega (arith, r.long))) (risen_relaxed ready.proper l)
      (λ d near up. cells_done up q (λ o. cell_idle (ground_in cells t lo hi cost kept room dist) d u r.len v (omega (arith, r.long)) near))

  pub fall_full : {most u : ℕ} {m : Marks} (v : ℕ) → u ≡ suc v → at room v ≤ 0 →
      Spreads (ground_in cells t lo hi cost kept room dist) most UpDone CellsDone u m m
  fall_full v q full = passing (λ up. cells_done up q (λ o. absurd (omega arith)))

  pub fall_bottom : {most u : ℕ} {m : Marks} → u ≡ 0 → Spreads (ground_in cells t lo hi cost kept room dist) most UpDone CellsDone u m m
  fall_bottom q = rw q (passing bottom_done)
