-- A call of `relax` is one step of the search, whatever the kind of the arc. Where the way along it is shorter, the label at its end is lowered
-- and no other, and that node is on the list; where it is not, all stays; and after both that label is no longer than the way. Assumes nothing.
use Rattle.std.specs.Prelude.{List, ◌≡◌, refl, ℕ, suc, ◌+◌, ◌≤◌, ◌<◌, ℤ, length, set}
use Rattle.std.proofs.Common.{⊎_elim, ap, arith}
use Rattle.base_sums.specs.At.{Stored, store}
use Rattle.base_signed.specs.Bits.{rd, back, within}
use Rattle.base_signed.specs.Parts.{up, dn}
use Rattle.base_sums.specs.Each.{less_or_not}
use Rattle.law_flow.specs.Balanced.{Proper}
use Rattle.law_flow.specs.Searching.{Ground, DeepAt, Came, Labels}
use Rattle.law_flow.specs.SearchSteps.{relaxed, passed}
use Rattle.plan_insert.specs.State.{at, lowest, Marks, marks, Listed, Relaxation, Lacks, Spreads}
use Rattle.plan_insert.specs.OpenList.{listed_room, listed_lower, listed_push}

-- ---- the ways through `relax`

module _ {most v way u arc : ℕ} {label by from list : List ℕ} {size : ℕ} (labels : v < length label) (arcs : v < length by) (origins : v < length from) where
  pub relax_stays : at label v ≤ way → Relaxation most (marks label by from list size) (marks label by from list size) v way u arc
  relax_stays far = record {
    label_in = labels;
    arc_in = arcs;
    origin_in = origins;
    stays = λ h. refl;
    label_lower = λ h. absurd (omega arith);
    by_lower = λ h. absurd (omega arith);
    from_lower = λ h. absurd (omega arith);
    again = λ h. absurd (omega arith);
    first = λ h. absurd (omega arith);
  }

  pub relax_lowers : {list' : List ℕ} {size' : ℕ} → way < at label v → (at label v < most → (list' ≡ list) × (size' ≡ size)) →
      (most ≤ at label v → size < 128 → (list' ≡ set list size v) × (size' ≡ suc size)) →
      Relaxation most (marks label by from list size) (marks (set label v way) (set by v arc) (set from v u) list' size') v way u arc
  relax_lowers less again first = record {
    label_in = labels;
    arc_in = arcs;
    origin_in = origins;
    stays = λ h. absurd (omega arith);
    label_lower = λ h. refl;
    by_lower = λ h. refl;
    from_lower = λ h. refl;
    again = λ h. again;
    first = λ h. first;
  }

-- ---- what an arc lacks, as the code reads its three numbers

module _ {cost near far : ℤ} (k : Lacks cost near far) where
  pub cost_back : rd cost ≡ cost
  cost_back = back (within cost 1000000 (omega arith) (omega arith))

  near_back : rd near ≡ near
  near_back = back (within near lowest (omega arith) (omega arith))

  far_back : rd far ≡ far
  far_back = back (within far lowest (omega arith) (omega arith))

  pub read_cost : Lacks (rd cost) near far
  read_cost = rw cost_back k

  pub read : Lacks (rd cost) (rd near) (rd far)
  read = rw (cost_back, near_back, far_back) k

  pub measured : (len : ℕ) → len + (dn (rd near) + dn (rd cost)) ≡ dn (rd far) + up (rd cost) → (len + (dn near + dn cost) ≡ dn far + up cost) × (len ≤ lowest + 1000000)
  measured len is = let long : len + (dn near + dn cost) ≡ dn far + up cost = rw (near_back, cost_back, far_back) at is in (long, omega arith)

-- ---- a step of the search

-- no arc: u gets from one stage to the next with the labels as they are
pub passing : {g : Ground} {most : ℕ} {Now Then : Ground → ℕ → (ℕ → ℕ) → Type 0} {u : ℕ} {m : Marks} → (Now g u (at m.label) → Then g u (at m.label)) → Spreads g most Now Then u m m
passing step = record { on = λ b rank clock s. (passed s.0 (step s.0.part), s.1); no_longer = omega arith }

-- Arc e from u to v, of length len. A label of that way came by it; what u has done stays done where v is lowered; and where the label of v is no
-- longer than the way, u gets from one stage to the next.
pub relaxing :
    {g : Ground} {most : ℕ} {Now Then : Ground → ℕ → (ℕ → ℕ) → Type 0} {u v e : ℕ} {m m' : Marks} (len : ℕ) →
    DeepAt g → Proper g.row g.t → v ≤ g.row.cells →
    Relaxation most m m' v (at m.label u + len) u e →
    (at m'.label u ≡ at m.label u → at m'.label v ≡ at m.label u + len → Came g (at m'.label) e u v) →
    (Came g (at m'.label) e u v → at m'.label v < at m.label v → ((w : ℕ) → w ≤ g.row.cells → (w ≡ v → ⊥) → at m'.label w ≡ at m.label w) → Now g u (at m.label) → Now g u (at m'.label)) →
    ((d : ℕ → ℕ) → d v ≤ d u + len → Now g u d → Then g u d) →
    Spreads g most Now Then u m m'
relaxing {g} {most} {Now} {Then} {u} {v} {e} {m} {m'} len deep proper inside r came keeps step = ⊎_elim lower stay (less_or_not (at m.label u + len) (at m.label v))
  where
    stay : at m.label v ≤ at m.label u + len → Spreads g most Now Then u m m'
    stay h = rw (r.stays h) (passing (step (at m.label) h))

    lower : at m.label u + len < at m.label v → Spreads g most Now Then u m m'
    lower h = record {
      on = λ b rank clock s. (
        relaxed deep proper s.0 arc less same (by_set.here v refl) (from_set.here v refl) (λ w i. by_set.elsewhere w) (λ w i. from_set.elsewhere w)
            (step (at m'.label) (omega (arith, label_set.here v refl, u_same)) (keeps arc less same s.0.part)),
        ⊎_elim (again s.1) (first s.0.labels s.1) (less_or_not (at m.label v) most),
      );
      no_longer = omega (arith, u_same);
    }
      where
        label_set : Stored 0 m.label v (at m.label u + len) m'.label
        label_set = rw (r.label_lower h) (store 0 m.label v (at m.label u + len) r.label_in)

        by_set : Stored 0 m.by v e m'.by
        by_set = rw (r.by_lower h) (store 0 m.by v e r.arc_in)

        from_set : Stored 0 m.from v u m'.from
        from_set = rw (r.from_lower h) (store 0 m.from v u r.origin_in)

        same : (w : ℕ) → w ≤ g.row.cells → (w ≡ v → ⊥) → at m'.label w ≡ at m.label w
        same w i = label_set.elsewhere w

        -- a way from u is no shorter than the label of u, so v is not u
        u_same : at m'.label u ≡ at m.label u
        u_same = label_set.elsewhere u (λ q. omega (arith, ap (at m.label) q))

        arc : Came g (at m'.label) e u v
        arc = came u_same (label_set.here v refl)

        less : at m'.label v < at m.label v
        less = omega (arith, label_set.here v refl)

        -- the list: v is on it, or goes on it, being no settled node
        again : {rank : ℕ → ℕ} → Listed g.row.cells most (at m.label) rank m.list m.size → at m.label v < most →
            Listed g.row.cells most (at m'.label) rank m'.list m'.size
        again l k = let e = r.again h k in rw (e.0, e.1) (listed_lower l less same k)

        first : {b clock : ℕ} {rank by from : ℕ → ℕ} → Labels g b most (at m.label) rank by from clock → Listed g.row.cells most (at m.label) rank m.list m.size →
            most ≤ at m.label v → Listed g.row.cells most (at m'.label) rank m'.list m'.size
        first {rank = rank} a l k =
            let e = r.first h k (listed_room l inside k) in
            rw (e.0, e.1)
            (listed_push l less same inside k (⊎_elim (λ (p : 0 < rank v). absurd (omega (arith, a.below v inside p))) (λ z. omega arith) (less_or_not 0 (rank v))) (omega (arith, less, a.upto v inside)))
