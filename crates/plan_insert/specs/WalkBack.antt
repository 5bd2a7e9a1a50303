-- The walk back over arrays. Each way through `flip` stores one entry and so is one of the steps of flow's WalkSteps; at every node the walk
-- can be made further, and at b the state is balanced. Assumes nothing.
use Rattle.std.specs.Prelude.{◌≡◌, refl, Bool, true, false, not, List, ℕ, ◌+◌, ◌-◌, ◌≤◌, ◌<◌, length, set}
use Rattle.std.proofs.Common.{ap, ◌∙◌, ⊎_elim, arith, length-set}
use Rattle.base_sums.specs.At.{Stored, store}
use Rattle.base_sums.specs.Each.{decided}
use Rattle.law_flow.specs.Balanced.{Balanced}
use Rattle.law_flow.specs.Walking.{Walking}
use Rattle.law_flow.specs.WalkSteps.{which_arc, walk_in, along_ends, back_ends, up_cell, down_room, step_up, step_down, step_keep, step_drop, walk_falls, walk_end}
use Rattle.plan_insert.specs.State.{at, flag, Links, Chains, CanWalk, CanTurn, CanFlip, TurnedRound, Flipped}
use Rattle.base_sums.specs.Between.{at_most_one}

-- ---- the ways through flip

module _ (kept : List Bool) (room : List ℕ) (ls : Links) (e u v : ℕ) where
  pub flipped_up : e ≡ 256 → Flipped kept room ls kept (set room u (at room u + 1)) ls e u v
  flipped_up q = record {
    up_kept = λ h. refl;
    up_room = λ h. refl;
    up_links = λ h. refl;
    down_kept = λ h. refl;
    down_room = λ h. absurd (omega arith);
    down_links = λ h. refl;
    turn_room = λ h. absurd (omega arith);
    turned = λ h. absurd (omega arith);
  }

  pub flipped_down : e ≡ 257 → Flipped kept room ls kept (set room v (at room v - 1)) ls e u v
  flipped_down q = record {
    up_kept = λ h. refl;
    up_room = λ h. absurd (omega arith);
    up_links = λ h. refl;
    down_kept = λ h. refl;
    down_room = λ h. refl;
    down_links = λ h. refl;
    turn_room = λ h. absurd (omega arith);
    turned = λ h. absurd (omega arith);
  }

  pub flipped_turn : {kept' : List Bool} {ls' : Links} → (e ≡ 256 → ⊥) → (e ≡ 257 → ⊥) → TurnedRound kept ls kept' ls' e u v → Flipped kept room ls kept' room ls' e u v
  flipped_turn n m is = record {
    up_kept = λ h. absurd (n h);
    up_room = λ h. absurd (n h);
    up_links = λ h. absurd (n h);
    down_kept = λ h. absurd (m h);
    down_room = λ h. absurd (m h);
    down_links = λ h. absurd (m h);
    turn_room = λ h. refl;
    turned = λ h. is;
  }

-- ---- the walk

-- the walk w has come to node v
pub record Come {kept₀ : List Bool} {room₀ : List ℕ} {ls₀ : Links} {rank by from : List ℕ} {a b : ℕ} (w : CanWalk kept₀ room₀ ls₀ rank by from a b) (kept : List Bool) (room : List ℕ) (ls : Links) (v : ℕ) : Type 0 where
  pub flags : length kept ≡ 256
  pub rooms : length room ≡ 128
  pub walking : Walking w.row w.t (flag kept) (at room) w.N b (at rank) (at by) (at from) v
  pub chains : Chains w.row.cells w.t w.row.lo w.row.hi kept ls

module _ {kept₀ : List Bool} {room₀ : List ℕ} {ls₀ : Links} {rank by from : List ℕ} {a b : ℕ} (w : CanWalk kept₀ room₀ ls₀ rank by from a b) where
  pub come_first : length kept₀ ≡ 256 → length room₀ ≡ 128 → Come w kept₀ room₀ ls₀ a
  come_first k r = record { flags = k; rooms = r; walking = w.walking; chains = w.chains }

  pub come_last : {kept : List Bool} {room : List ℕ} {ls : Links} → Come w kept room ls b → Balanced w.row w.t (flag kept) (at room) w.N
  come_last here = walk_end here.walking

  module _ {kept : List Bool} {room : List ℕ} {ls : Links} {v : ℕ} (here : Come w kept room ls v) where
    pub come_in : v < 128
    come_in = omega (arith, here.walking.node, w.cells_upto)

    module _ (going : v ≡ b → ⊥) where
      pub come_nearer : at rank (at from v) < at rank v
      come_nearer = walk_falls here.walking going

      -- a cell has no more than its limit and the one that the walk owes it
      spare : (j : ℕ) → j < w.row.cells → at room j ≤ 2000
      spare j l = omega (arith, here.walking.room j l, w.limits j l, at_most_one v b j)

      -- an arc of a candidate can be turned round
      turnable : at by v < w.t → CanTurn w.row w.t kept ls (at by v) (at from v) v
      turnable l = record {
        cells_upto = w.cells_upto;
        t_upto = w.t_upto;
        candidate = l;
        near_in = walk_in here.walking going;
        far_in = here.walking.node;
        along = along_ends here.walking going w.t_upto l;
        back = back_ends here.walking going w.t_upto l;
        chains = here.chains;
      }

      numbered : at by v ≤ 257
      numbered = ⊎_elim (λ q. omega arith) (⊎_elim (λ q. omega arith) (λ l. omega (arith, w.t_upto))) (which_arc here.walking going)

      below_cell : at by v ≡ 256 → at from v < w.row.cells
      below_cell = up_cell here.walking going w.t_upto

      above_room : at by v ≡ 257 → (0 < at room v) × (v < w.row.cells)
      above_room = down_room here.walking going w.t_upto

      candidate : at by v < 256 → at by v < w.t
      candidate h = ⊎_elim (λ q. absurd (omega arith)) (⊎_elim (λ q. absurd (omega arith)) (λ l. l)) (which_arc here.walking going)

      pub can_flip : CanFlip kept room ls (at by v) (at from v) v
      can_flip = record {
        arc = numbered;
        up_cell = λ q. omega (arith, below_cell q, w.cells_upto);
        up_room = λ q. spare (at from v) (below_cell q);
        down_cell = λ q. come_in;
        down_room = λ q. (above_room q).0;
        turn = λ h. (w.row, w.t, turnable (candidate h));
      }

      come_up : at by v ≡ 256 → Come w kept (set room (at from v) (at room (at from v) + 1)) ls (at from v)
      come_up q = record {
        flags = here.flags;
        rooms = rw length-set here.rooms;
        walking = step_up here.walking going w.t_upto q (omega (arith, gains.here (at from v) refl)) (λ j l. gains.elsewhere j);
        chains = here.chains;
      }
        where
          gains : Stored 0 room (at from v) (at room (at from v) + 1) (set room (at from v) (at room (at from v) + 1))
          gains = store 0 room (at from v) (at room (at from v) + 1) (omega (arith, here.rooms, below_cell q, w.cells_upto))

      come_down : at by v ≡ 257 → Come w kept (set room v (at room v - 1)) ls (at from v)
      come_down q = record {
        flags = here.flags;
        rooms = rw length-set here.rooms;
        walking = step_down here.walking going w.t_upto q (omega (arith, loses.here v refl, above_room q)) (λ j l. loses.elsewhere j);
        chains = here.chains;
      }
        where
          loses : Stored 0 room v (at room v - 1) (set room v (at room v - 1))
          loses = store 0 room v (at room v - 1) (omega (arith, here.rooms, come_in))

      come_turned : {ls' : Links} → at by v < w.t → Chains w.row.cells w.t w.row.lo w.row.hi (set kept (at by v) (not (flag kept (at by v)))) ls' →
          Come w (set kept (at by v) (not (flag kept (at by v)))) room ls' (at from v)
      come_turned l c = record { flags = rw length-set here.flags; rooms = here.rooms; walking = ⊎_elim dropped held (decided (flag kept (at by v))); chains = c }
        where
          kept' : List Bool
          kept' = set kept (at by v) (not (flag kept (at by v)))

          turned : Stored false kept (at by v) (not (flag kept (at by v))) kept'
          turned = store false kept (at by v) (not (flag kept (at by v))) (omega (arith, here.flags, w.t_upto))

          dropped : flag kept (at by v) ≡ true → Walking w.row w.t (flag kept') (at room) w.N b (at rank) (at by) (at from) (at from v)
          dropped on = step_drop here.walking going w.t_upto w.proper refl l on (turned.here (at by v) refl ∙ ap not on) (λ i h. turned.elsewhere i)

          held : flag kept (at by v) ≡ false → Walking w.row w.t (flag kept') (at room) w.N b (at rank) (at by) (at from) (at from v)
          held off = step_keep here.walking going w.t_upto w.proper refl l off (turned.here (at by v) refl ∙ ap not off) (λ i h. turned.elsewhere i)

      pub come_next : {kept' : List Bool} {room' : List ℕ} {ls' : Links} → Flipped kept room ls kept' room' ls' (at by v) (at from v) v → Come w kept' room' ls' (at from v)
      come_next f =
          ⊎_elim
          (λ q. rw (f.up_kept q, f.up_room q, f.up_links q) (come_up q))
          (⊎_elim
          (λ q. rw (f.down_kept q, f.down_room q, f.down_links q) (come_down q))
          (λ l. let r = f.turned (omega (arith, w.t_upto)) in rw (r.flags, f.turn_room (omega (arith, w.t_upto))) (come_turned l (rw r.flags at (r.chains w.row w.t (turnable l))))))
          (which_arc here.walking going)
