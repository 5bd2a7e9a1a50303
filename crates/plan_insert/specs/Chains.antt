-- A node u spreads along the chain of the dropped candidates that begin at u, or of the kept ones that end there, latest first. Between two links of
-- the chain there is no other such candidate: so where a link is done, all is done from the next link on. Assumes nothing.
use Rattle.std.specs.Prelude.{Bool, true, false, List, ◌≡◌, refl, ℕ, suc, ◌+◌, ◌≤◌, ◌<◌, ℤ, pos, ◌-ℤ◌, get_or}
use Rattle.std.proofs.Common.{sym, ap, ◌∙◌, arith}
use Rattle.base_signed.specs.Bits.{rd, back, within}
use Rattle.base_signed.specs.Parts.{up, dn, Neg, neg}
use Rattle.law_flow.specs.SearchSteps.{spread_relaxed, along_arc, back_arc, chain_step_along, chain_step_back, chain_skip_along, chain_skip_back}
use Rattle.plan_insert.specs.State.{at, flag, depth, ground_in, Ready, Flagged, ends_of, cost_along, LatestBelow, EndsAt, Chained, Marks, Lacks, Tried, Spreads, DoneFrom, NoneDone}
use Rattle.plan_insert.specs.Relaxed.{cost_back, passing, relaxing}
use Rattle.plan_insert.specs.Stages.{spreads_on}

-- ---- along a chain

-- a gap with none of a side in it is done
skip :
    (side : Bool) {cells t : ℕ} (lo hi : List ℕ) (cost : List ℤ) (kept : List Bool) (room : List ℕ) (dist : List ℤ) {u : ℕ} (d : ℕ → ℕ) (i j : ℕ) →
    DoneFrom side i (ground_in cells t lo hi cost kept room dist) u d →
    ((k : ℕ) → j ≤ k → k < i → Flagged side t kept k → at (ends_of side lo hi) k ≡ u → ⊥) →
    DoneFrom side j (ground_in cells t lo hi cost kept room dist) u d
skip true lo hi cost kept room dist d i j s none = chain_skip_back s (λ k m l n stays. none k m l (n, stays))
skip false lo hi cost kept room dist d i j s none = chain_skip_along s (λ k m l n out. none k m l (n, out))

-- u has followed the chain of a side down to i
pub record Followed (side : Bool) (cells t : ℕ) (lo hi : List ℕ) (cost : List ℤ) (kept : List Bool) (room : List ℕ) (dist : List ℤ) (most u : ℕ) (m₀ m : Marks) (i : ℕ) : Type 0 where
  pub here : (e : ℕ) → i ≡ suc e → EndsAt (Flagged side t kept) (at (ends_of side lo hi)) u e
  pub spreads : Spreads (ground_in cells t lo hi cost kept room dist) most (NoneDone side) (DoneFrom side i) u m₀ m

-- no link in a gap of the chain has its end at u
module _
    (side : Bool)
    {cells t : ℕ}
    {lo hi : List ℕ}
    {cost : List ℤ}
    {kept : List Bool}
    {room : List ℕ}
    {dist : List ℤ}
    {head next : List ℕ}
    {most u : ℕ}
    (chain : Chained cells (Flagged side t kept) (at (ends_of side lo hi)) head next) where
  pub begun : {m : Marks} → u ≤ cells → Followed side cells t lo hi cost kept room dist most u m m (at head u)
  begun inside = record {
    here = (chain.heads u inside).one;
    spreads = passing (λ s. skip side lo hi cost kept room dist _ _ _ s (λ k m l n q. omega (arith, (chain.heads u inside).last k (chain.few k n) (n, q))));
  }

  -- link e is done
  pub followed : {m₀ m m' : Marks} {i e : ℕ} → i ≡ suc e → Followed side cells t lo hi cost kept room dist most u m₀ m i →
      Spreads (ground_in cells t lo hi cost kept room dist) most (DoneFrom side (suc e)) (DoneFrom side e) u m m' →
      Followed side cells t lo hi cost kept room dist most u m₀ m' (at next e)
  followed {e = e} q f done = record {
    here = λ k p. let o = after.one k p in (o.0, o.1 ∙ own.1);
    spreads = spreads_on (spreads_on (rw q at f.spreads) done) (passing (λ s. skip side lo hi cost kept room dist _ _ _ s (λ k m l n r. omega (arith, after.last k l (n, r ∙ sym own.1)))));
  }
    where
      own : EndsAt (Flagged side t kept) (at (ends_of side lo hi)) u e
      own = f.here e q

      after : LatestBelow (EndsAt (Flagged side t kept) (at (ends_of side lo hi)) (at (ends_of side lo hi) e)) e (at next e)
      after = chain.nexts e own.0

-- ---- one link: the arc out of u along dropped candidate e, or back along kept candidate e

module _
    {cells t : ℕ}
    {lo hi : List ℕ}
    {cost : List ℤ}
    {kept : List Bool}
    {room : List ℕ}
    {dist : List ℤ}
    (ready : Ready cells t lo hi cost kept room dist)
    {e : ℕ}
    (l : e < t) where
  two_ends : (at lo e < at hi e) × (at hi e ≤ cells)
  two_ends = (ready.proper.some_cell e l, ready.proper.in_row e l)

  pub far_inside : (side : Bool) → at (ends_of side hi lo) e ≤ cells
  far_inside true = omega (arith, two_ends)
  far_inside false = omega (arith, two_ends)

  cost_is : rd (get_or cost e (pos 0)) ≡ get_or cost e (pos 0)
  cost_is = back (within (get_or cost e (pos 0)) 1000000 (omega arith) (omega (arith, ready.costs.not_above e l, ready.costs.upto e l)))

  -- the cost as the code reads it
  pub small : (up (rd (get_or cost e (pos 0))) ≤ 1000000) × (dn (rd (get_or cost e (pos 0))) ≤ 1000000)
  small = rw cost_is (omega (arith, ready.costs.not_above e l, ready.costs.upto e l))

  lacks : {v w : ℕ} {z : ℤ} → v ≤ cells → w ≤ cells → up z ≤ 1000000 → dn z ≤ 1000000 → depth dist v + dn z ≤ depth dist w + up z → Lacks z (get_or dist v (pos 0)) (get_or dist w (pos 0))
  lacks {v} {w} i j high low deep =
      omega (arith, ready.dists.not_above v (omega arith), ready.dists.upto v (omega arith), ready.dists.not_above w (omega arith), ready.dists.upto w (omega arith))

  turned : {z : ℤ} → z ≡ pos 0 -ℤ rd (get_or cost e (pos 0)) → Neg (get_or cost e (pos 0)) z
  turned is = rw (is, cost_is) (neg (get_or cost e (pos 0)))

  -- the arc's cost z cannot lower its far end
  pub link_lacks : (side : Bool) {u : ℕ} {z : ℤ} → z ≡ cost_along side (rd (get_or cost e (pos 0))) → flag kept e ≡ side → at (ends_of side lo hi) e ≡ u →
      Lacks z (get_or dist u (pos 0)) (get_or dist (at (ends_of side hi lo) e) (pos 0))
  link_lacks true is stays q =
      lacks (omega (arith, two_ends)) (omega (arith, two_ends)) (omega (arith, turned is, ready.costs.upto e l)) (omega (arith, turned is, ready.costs.not_above e l))
      (omega (arith, turned is, ready.deep.paid e l stays, ap (depth dist) q, ready.costs.not_above e l))
  link_lacks false is out q =
      rw (is ∙ cost_is)
      (lacks (omega (arith, two_ends)) (omega (arith, two_ends)) (omega (arith, ready.costs.not_above e l)) (ready.costs.upto e l)
      (omega (arith, ready.deep.dropped e l out, ap (depth dist) q)))

  pub link_done :
      (side : Bool) {most u : ℕ} {z : ℤ} {m m' : Marks} → z ≡ cost_along side (rd (get_or cost e (pos 0))) → flag kept e ≡ side → at (ends_of side lo hi) e ≡ u →
      Tried most (rd z) (get_or dist u (pos 0)) (get_or dist (at (ends_of side hi lo) e) (pos 0)) m m' u (at (ends_of side hi lo) e) e →
      Spreads (ground_in cells t lo hi cost kept room dist) most (DoneFrom side (suc e)) (DoneFrom side e) u m m'
  link_done true {most} {u} {z} {m} {m'} is stays q read-so =
      relaxing r.len ready.deep ready.proper (far_inside true) r.relaxation (back_arc r.len l stays (sym q) refl long)
      (λ arc less same. spread_relaxed ready.proper (omega (arith, two_ends)) arc less same)
      (λ d near s. chain_step_back s (λ _ _ _. omega (arith, long)))
    where
      r : Tried most z (get_or dist u (pos 0)) (get_or dist (at lo e) (pos 0)) m m' u (at lo e) e
      r = rw (cost_back (link_lacks true is stays q)) at read-so

      long : r.len + depth dist u ≡ depth dist (at lo e) + depth cost e
      long = omega (arith, r.long, turned is, ready.costs.not_above e l)
  link_done false {most} {u} {z} {m} {m'} is out q read-so =
      relaxing r.len ready.deep ready.proper (far_inside false) r.relaxation (along_arc r.len l out (sym q) refl long)
      (λ arc less same. spread_relaxed ready.proper (omega (arith, two_ends)) arc less same)
      (λ d near s. chain_step_along s (λ _ _ _. omega (arith, long)))
    where
      r : Tried most (get_or cost e (pos 0)) (get_or dist u (pos 0)) (get_or dist (at hi e) (pos 0)) m m' u (at hi e) e
      r = rw (cost_back (link_lacks false is out q), is ∙ cost_is) at read-so

      long : r.len + (depth dist u + depth cost e) ≡ depth dist (at hi e)
      long = omega (arith, r.long, ready.costs.not_above e l)
