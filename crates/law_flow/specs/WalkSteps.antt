-- Each step of the walk flips one arc and goes to the node that it came from. The loads stay right because the arc's cells are just those
-- that the node moves by, no arc deepens a node because the flipped one was tight, and the arcs still to come are not touched because ranks
-- fall: none of them ends at the node that was left. Assumes nothing.
use Rattle.std.specs.Prelude.{◌≡◌, refl, Bool, true, false, ◌&&◌, ◌⊎◌, ℕ, suc, ◌+◌, ◌≤◌, ◌<◌}
use Rattle.std.proofs.Common.{sym, ◌∙◌, inl, inr, ⊎_elim}
use Rattle.std.proofs.Math.Path.{ap}
use native.Mathlib.Omega.{arith}
use Rattle.base_sums.specs.Between.{between, below, between_below, between_round, between_none}
use Rattle.base_sums.specs.Each.{decided, same_or_not, of_yes}
use Rattle.base_sums.specs.Sums.{Σ, bit, Σ-ext, Σ-change}
use Rattle.law_row.specs.Row.{Row, covers}
use Rattle.law_row.specs.Meets.{first_in}
use Rattle.law_flow.specs.Balanced.{Proper, load_to, Deep, Balanced}
use Rattle.law_flow.specs.Walking.{Open, up, down, along, back, StepBack, Trail, trail_stays, Walking}

-- ---- loads

-- what candidate i counts for on cell j, kept or dropped
kept_on : (row : Row) (x : ℕ → Bool) (i j : ℕ) → x i ≡ true → bit (x i && covers row i j) ≡ between (row.lo i) (row.hi i) j
unfolding between covers
kept_on row x i j e = rw e

dropped_on : (row : Row) (x : ℕ → Bool) (i j : ℕ) → x i ≡ false → bit (x i && covers row i j) ≡ 0
dropped_on row x i j e = rw e

module _ (row : Row) (x x' : ℕ → Bool) (t : ℕ) where
  -- the same flags and one more candidate, kept
  pub load_new : (j : ℕ) → ((i : ℕ) → i < t → x' i ≡ x i) → x' t ≡ true → load_to row (suc t) x' j ≡ load_to row t x j + between (row.lo t) (row.hi t) j
  unfolding load_to Σ
  load_new j same on = omega (arith, kept_on row x' t j on, Σ-ext t _ _ (λ i l. ap (λ (f : Bool). bit (f && covers row i j)) (same i l)))

  -- the same flags but for one candidate, dropped by x and kept by x'
  load_more : (e j : ℕ) → e < t → x e ≡ false → x' e ≡ true → ((i : ℕ) → i < t → (i ≡ e → ⊥) → x' i ≡ x i) → load_to row t x' j ≡ load_to row t x j + between (row.lo e) (row.hi e) j
  unfolding load_to
  load_more e j l off on same =
      omega (
        arith,
        dropped_on row x e j off,
        kept_on row x' e j on,
        Σ-change t e (λ i. bit (x' i && covers row i j)) (λ i. bit (x i && covers row i j)) l (λ i k n. ap (λ (f : Bool). bit (f && covers row i j)) (same i k n)),
      )

-- no cell lies between a candidate's ends the wrong way round
proper_none : (row : Row) (t i j : ℕ) → Proper row t → i < t → between (row.hi i) (row.lo i) j ≡ 0
proper_none row t i j proper l = between_none (row.hi i) (row.lo i) j (omega (arith, proper.some_cell i l))

-- one more of room on the cell from node u up to node v
room_more : (c c' : ℕ → ℕ) (u v j : ℕ) → v ≡ suc u → c' u ≡ suc (c u) → ((j ≡ u → ⊥) → c' j ≡ c j) → c' j ≡ c j + between u v j
unfolding below
room_more c c' u v j e at off = ⊎_elim here (λ n. omega (arith, off n, between_below u v j)) (same_or_not j u)
  where
    here : j ≡ u → c' j ≡ c j + between u v j
    here q = rw q (omega (arith, between_below u v u))

-- ---- open arcs

-- an arc stays open where its candidate keeps its flag and its cell keeps some room
still : {row : Row} {t t' : ℕ} {x x' : ℕ → Bool} {s s' N : ℕ → ℕ} {e u v : ℕ} → t ≤ t' → (e < t → x' e ≡ x e) → (v < row.cells → 0 < s v → 0 < s' v) → Open row t x s N e u v → Open row t' x' s' N e u v
still h flag room (up q f l n) = up q f l n
still h flag room (down q f l r n) = down q f l (room l r) n
still h flag room (along l f p q n) = along (omega arith) (flag l ∙ f) p q n
still h flag room (back l f p q n) = back (omega arith) (flag l ∙ f) p q n

module _ {row : Row} {t : ℕ} {x : ℕ → Bool} {s N : ℕ → ℕ} {e u v : ℕ} where
  kind : Open row t x s N e u v → (e ≡ 256) ⊎ ((e ≡ 257) ⊎ (e < t))
  kind (up q f l n) = inl q
  kind (down q f l r n) = inr (inl q)
  kind (along l f p q n) = inr (inr l)
  kind (back l f p q n) = inr (inr l)

  -- an arc's number tells its kind, since the candidates' are below 256
  module _ (small : t ≤ 256) where
    is_up : e ≡ 256 → Open row t x s N e u v → (v ≡ suc u) × (v ≤ row.cells) × (N v ≡ N u)
    is_up h (up q f l n) = (f, l, n)
    is_up h (down q f l r n) = absurd (omega arith)
    is_up h (along l f p q n) = absurd (omega arith)
    is_up h (back l f p q n) = absurd (omega arith)

    is_down : e ≡ 257 → Open row t x s N e u v → (u ≡ suc v) × (v < row.cells) × (0 < s v)
    is_down h (up q f l n) = absurd (omega arith)
    is_down h (down q f l r n) = (f, l, r)
    is_down h (along l f p q n) = absurd (omega arith)
    is_down h (back l f p q n) = absurd (omega arith)

    is_along : e < t → x e ≡ false → Open row t x s N e u v → (u ≡ row.lo e) × (v ≡ row.hi e)
    is_along h off (up q f l n) = absurd (omega arith)
    is_along h off (down q f l r n) = absurd (omega arith)
    is_along h off (along l f p q n) = (p, q)
    is_along h off (back l f p q n) = absurd (of_yes (sym off ∙ f))

    is_back : e < t → x e ≡ true → Open row t x s N e u v → (u ≡ row.hi e) × (v ≡ row.lo e)
    is_back h on (up q f l n) = absurd (omega arith)
    is_back h on (down q f l r n) = absurd (omega arith)
    is_back h on (along l f p q n) = absurd (of_yes (sym f ∙ on))
    is_back h on (back l f p q n) = (p, q)

    -- a candidate's arc is tight, whichever way it goes
    is_tight : e < t → Open row t x s N e u v → N (row.hi e) ≡ N (row.lo e) + row.profit e
    is_tight h (up q f l n) = absurd (omega arith)
    is_tight h (down q f l r n) = absurd (omega arith)
    is_tight h (along l f p q n) = rw (p, q) at n
    is_tight h (back l f p q n) = rw (p, q) at n

-- of each candidate only one arc is open
one_arc : {row : Row} {t : ℕ} {x : ℕ → Bool} {s N : ℕ → ℕ} {e u v u' v' : ℕ} → t ≤ 256 → e < t → Open row t x s N e u v → Open row t x s N e u' v' → v ≡ v'
one_arc {x} {e} small l a a' =
    ⊎_elim
    (λ on. omega (arith, (is_back small l on a).1, (is_back small l on a').1))
    (λ off. omega (arith, (is_along small l off a).1, (is_along small l off a').1))
    (decided (x e))

-- ---- the steps

module _ {row : Row} {t : ℕ} {x : ℕ → Bool} {s N : ℕ → ℕ} {b : ℕ} {rank by from : ℕ → ℕ} {v : ℕ} (walk : Walking row t x s N b rank by from v) (going : v ≡ b → ⊥) where
  step : StepBack row t x s N rank by from v
  step = walk.trail.step v walk.node walk.trail.ranked (omega arith) going

  arc : Open row t x s N (by v) (from v) v
  arc = step.arc

  pub which_arc : (by v ≡ 256) ⊎ ((by v ≡ 257) ⊎ (by v < t))
  which_arc = kind arc

  pub walk_falls : rank (from v) < rank v
  walk_falls = step.falls

  pub walk_in : from v ≤ row.cells
  walk_in = step.from_in

  -- the ends of a candidate's arc
  pub along_ends : t ≤ 256 → by v < t → x (by v) ≡ false → (from v ≡ row.lo (by v)) × (v ≡ row.hi (by v))
  along_ends small l off = is_along small l off arc

  pub back_ends : t ≤ 256 → by v < t → x (by v) ≡ true → (from v ≡ row.hi (by v)) × (v ≡ row.lo (by v))
  back_ends small l on = is_back small l on arc

  -- whatever is flipped: the cells that v moves by change as they should, and the arcs to other nodes stay open
  stepped :
      {x' : ℕ → Bool} {s' : ℕ → ℕ}
      → ((j : ℕ) → j < row.cells → s' j + load_to row t x' j + between v (from v) j ≡ s j + load_to row t x j + between (from v) v j)
      → Deep row t x' s' N
      → ((e u w : ℕ) → (w ≡ v → ⊥) → Open row t x s N e u w → Open row t x' s' N e u w)
      → Walking row t x' s' N b rank by from (from v)
  stepped moved deep others = record {
    node = walk_in;
    room = λ j l. omega (arith, moved j l, walk.room j l, between_round b v (from v) j);
    deep = deep;
    trail = trail_stays refl step.from_ranked (omega (arith, walk_falls)) (λ w h. others (by w) (from w) w (λ q. omega (arith, ap rank q, walk_falls))) walk.trail;
  }

  module _ (small : t ≤ 256) where
    pub up_cell : by v ≡ 256 → from v < row.cells
    up_cell k = omega (arith, is_up small k arc)

    pub down_room : by v ≡ 257 → (0 < s v) × (v < row.cells)
    down_room k = ((is_down small k arc).2, (is_down small k arc).1)

    pub step_up :
        {s' : ℕ → ℕ}
        → by v ≡ 256
        → s' (from v) ≡ suc (s (from v))
        → ((j : ℕ) → j < row.cells → (j ≡ from v → ⊥) → s' j ≡ s j)
        → Walking row t x s' N b rank by from (from v)
    step_up {s'} k more same =
        stepped
        (λ j l. omega (arith, gain j l, between_none v (from v) j (omega (arith, facts))))
        record { rises = walk.deep.rises; level = level; paid = walk.deep.paid; dropped = walk.deep.dropped }
        (λ e u w n. still (omega arith) (λ l. refl) (λ l r. omega (arith, gain w l)))
      where
        facts : (v ≡ suc (from v)) × (v ≤ row.cells) × (N v ≡ N (from v))
        facts = is_up small k arc

        gain : (j : ℕ) → j < row.cells → s' j ≡ s j + between (from v) v j
        gain j l = room_more s s' (from v) v j facts.0 more (same j l)

        level : (j : ℕ) → j < row.cells → 0 < s' j → N (suc j) ≤ N j
        level j l r = ⊎_elim (λ (q : j ≡ from v). rw (q, ← facts.0) (omega (arith, facts))) (λ n. walk.deep.level j l (omega (arith, same j l n))) (same_or_not j (from v))

    pub step_down :
        {s' : ℕ → ℕ}
        → by v ≡ 257
        → s' v + 1 ≡ s v
        → ((j : ℕ) → j < row.cells → (j ≡ v → ⊥) → s' j ≡ s j)
        → Walking row t x s' N b rank by from (from v)
    step_down {s'} k less same =
        stepped
        (λ j l. omega (arith, loss j l, between_none (from v) v j (omega (arith, facts))))
        record { rises = walk.deep.rises; level = λ j l r. walk.deep.level j l (omega (arith, loss j l)); paid = walk.deep.paid; dropped = walk.deep.dropped }
        (λ e u w n. still (omega arith) (λ l. refl) (λ l r. omega (arith, same w l n)))
      where
        facts : (from v ≡ suc v) × (v < row.cells) × (0 < s v)
        facts = is_down small k arc

        loss : (j : ℕ) → j < row.cells → s j ≡ s' j + between v (from v) j
        loss j l = room_more s' s v (from v) j facts.0 (omega arith) (λ n. sym (same j l n))

    -- A candidate's flag is turned: its arc was the only one of its number, and being tight it suits either flag.
    turned :
        {x' : ℕ → Bool} {e : ℕ}
        → by v ≡ e
        → e < t
        → ((i : ℕ) → i < t → (i ≡ e → ⊥) → x' i ≡ x i)
        → ((j : ℕ) → j < row.cells → load_to row t x' j + between v (from v) j ≡ load_to row t x j + between (from v) v j)
        → Walking row t x' s N b rank by from (from v)
    turned {x'} {e} k l same moved = stepped (λ j h. omega (arith, moved j h)) deep others
      where
        mine : Open row t x s N e (from v) v
        mine = rw k at arc

        others : (e' u w : ℕ) → (w ≡ v → ⊥) → Open row t x s N e' u w → Open row t x' s N e' u w
        others e' u w n a = still (omega arith) (λ h. same e' h (λ q. n (one_arc small l (rw q at a) mine))) (λ h r. r) a

        tight : N (row.hi e) ≡ N (row.lo e) + row.profit e
        tight = is_tight small l mine

        deep : Deep row t x' s N
        deep = record {
          rises = walk.deep.rises;
          level = walk.deep.level;
          paid = λ i h on. ⊎_elim (λ (q : i ≡ e). rw q (omega (arith, tight))) (λ n. walk.deep.paid i h (sym (same i h n) ∙ on)) (same_or_not i e);
          dropped = λ i h off. ⊎_elim (λ (q : i ≡ e). rw q (omega (arith, tight))) (λ n. walk.deep.dropped i h (sym (same i h n) ∙ off)) (same_or_not i e);
        }

    module _ (proper : Proper row t) where
      pub step_keep :
          {x' : ℕ → Bool} {e : ℕ}
          → by v ≡ e
          → e < t
          → x e ≡ false
          → x' e ≡ true
          → ((i : ℕ) → i < t → (i ≡ e → ⊥) → x' i ≡ x i)
          → Walking row t x' s N b rank by from (from v)
      step_keep {x'} {e} k l off on same = turned k l same moved
        where
          ends : (from v ≡ row.lo e) × (v ≡ row.hi e)
          ends = is_along small l off (rw k at arc)

          moved : (j : ℕ) → j < row.cells → load_to row t x' j + between v (from v) j ≡ load_to row t x j + between (from v) v j
          moved j h = rw (ends.0, ends.1) (omega (arith, load_more row x x' t e j l off on same, proper_none row t e j proper l))

      pub step_drop :
          {x' : ℕ → Bool} {e : ℕ}
          → by v ≡ e
          → e < t
          → x e ≡ true
          → x' e ≡ false
          → ((i : ℕ) → i < t → (i ≡ e → ⊥) → x' i ≡ x i)
          → Walking row t x' s N b rank by from (from v)
      step_drop {x'} {e} k l on off same = turned k l same moved
        where
          ends : (from v ≡ row.hi e) × (v ≡ row.lo e)
          ends = is_back small l on (rw k at arc)

          moved : (j : ℕ) → j < row.cells → load_to row t x' j + between v (from v) j ≡ load_to row t x j + between (from v) v j
          moved j h = rw (ends.0, ends.1) (omega (arith, load_more row x' x t e j l off on (λ i m n. sym (same i m n)), proper_none row t e j proper l))

-- ---- the two ends

-- The new candidate t₀ is kept: the loads are right but for its own cells. All other arcs are as the search found them.
pub walk_start :
    {row : Row} {t₀ : ℕ} {x₀ x : ℕ → Bool} {s N₀ N : ℕ → ℕ} {a b : ℕ} {rank by from : ℕ → ℕ}
    → Balanced row t₀ x₀ s N₀
    → Deep row (suc t₀) x s N
    → ((i : ℕ) → i < t₀ → x i ≡ x₀ i)
    → x t₀ ≡ true
    → Proper row (suc t₀)
    → a ≡ row.lo t₀
    → b ≡ row.hi t₀
    → Trail row t₀ x₀ s N b rank by from a
    → Walking row (suc t₀) x s N b rank by from a
walk_start {row} {t₀} {x₀} {x} {s} {a} {b} balanced deep same on proper lo hi trail = record {
  node = omega (arith, first_in proper t₀ (omega arith));
  room = room;
  deep = deep;
  trail = trail_stays refl trail.ranked (omega arith) (λ w h. still (omega arith) (same _) (λ k m. m)) trail;
}
  where
    room : (j : ℕ) → j < row.cells → s j + load_to row (suc t₀) x j + between b a j ≡ row.limit j + between a b j
    room j l = rw (lo, hi) (omega (arith, balanced.room j l, load_new row x₀ x t₀ j same on, proper_none row (suc t₀) t₀ j proper (omega arith)))

-- at b no cell is left between
pub walk_end : {row : Row} {t : ℕ} {x : ℕ → Bool} {s N : ℕ → ℕ} {b : ℕ} {rank by from : ℕ → ℕ} → Walking row t x s N b rank by from b → Balanced row t x s N
walk_end {b} walk = record { room = λ j l. omega (arith, walk.room j l); deep = walk.deep }
