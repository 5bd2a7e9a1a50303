-- The last link above e is found by following the chain from its first link, and e is put in after it, or taken out: each way through `last_above`,
-- `put_in` and `take_out`. Assumes nothing.
use Rattle.std.specs.Prelude.{◌≡◌, refl, List, ℕ, suc, ◌+◌, ◌-◌, ◌≤◌, ◌<◌, length, set}
use Rattle.std.proofs.Common.{◌∙◌, ⊎_elim, arith}
use Rattle.base_sums.specs.Each.{same_or_not}
use Rattle.plan_insert.specs.State.{at, Flagged, EndsAt}
use Rattle.plan_insert.specs.Joining.{Joins, Moves, Before, After, Moved, CanFollow, Above}
use Rattle.plan_insert.specs.Link.{put_first, put_after, take_first, take_after}

-- ---- the last link above e is found

module _ {next : List ℕ} {j e : ℕ} (w : CanFollow next j e) where
  -- k is a link above e, with the end of j
  abbrev pub Way : ℕ → Type 0
  Way k = Flagged w.side w.t w.kept k × (w.ends k ≡ w.ends j) × (e < k)

  pub way_first : Way j
  way_first = (w.link, refl, w.above)

  module _ {k : ℕ} (x : Way k) where
    pub way_in : k < 256
    way_in = w.chained.few k x.0

    pub way_falls : at next k ≤ k
    way_falls = (w.chained.nexts k x.0).upto

    pub way_next : e + 1 < at next k → Way (at next k - 1)
    way_next more = let o = (w.chained.nexts k x.0).one (at next k - 1) (omega arith) in (o.0, o.1 ∙ x.1, omega arith)

    pub way_last : at next k ≤ e + 1 → Above (Flagged w.side w.t w.kept) w.ends next (w.ends j) e k
    way_last far = record { link = x.0; end_at = x.1; above = x.2; last = omega arith }

-- ---- the ways through `put_in` and `take_out`

module _ {head next : List ℕ} {v e : ℕ} (w : Moves head next v e) where
  -- the first link is above e: the chain can be followed from it
  first_link : suc e < at head v → EndsAt (Before w) w.ends v (at head v - 1)
  first_link far = (w.chained.heads v w.node).one (at head v - 1) (omega arith)

  pub follows : suc e < at head v → CanFollow next (at head v - 1) e
  follows far = record {
    cells = w.cells;
    ends = w.ends;
    side = w.side;
    t = w.t;
    kept = w.kept;
    head = head;
    chained = w.chained;
    link = (first_link far).0;
    above = omega arith;
  }

  -- what `last_above` promises, where it starts from the first link
  abbrev Found : ℕ → Type 0
  Found r = (f : CanFollow next (at head v - 1) e) → Above (Flagged f.side f.t f.kept) f.ends next (f.ends (at head v - 1)) e r

  found : {r : ℕ} → suc e < at head v → Found r → Above (Before w) w.ends next v e r
  unfolding follows
  found far is = rw (first_link far).1 at (is (follows far))

  pub found_in : {r : ℕ} → suc e < at head v → Found r → r < 256
  found_in {r} far is = w.chained.few r (found far is).link

  module _ (k : Joins (Before w) (After w) e) where
    pub put_far : e < at head v → suc e < at head v
    put_far some =
        ⊎_elim
        (λ (q : at head v ≡ suc e). absurd (k.outside ((w.chained.heads v w.node).one e q).0))
        (λ n. omega arith)
        (same_or_not (at head v) (suc e))

    pub put_in_first : length head ≡ 128 → length next ≡ 256 → at head v ≤ e → Moved w (set head v (e + 1)) (set next e (at head v))
    put_in_first heads nexts = put_first k w.node w.number w.here w.chained (omega (arith, w.node, w.small)) (omega (arith, w.number))

    pub put_in_after : {r : ℕ} → length next ≡ 256 → suc e < at head v → Found r → Moved w head (set (set next e (at next r)) r (e + 1))
    put_in_after nexts far is =
        put_after k w.node w.number w.here w.chained (omega (arith, w.number)) (omega (arith, found_in far is)) (found far is)

  module _ (k : Joins (After w) (Before w) e) where
    pub take_far : (at head v ≡ e + 1 → ⊥) → suc e < at head v
    take_far other = omega (arith, (w.chained.heads v w.node).last e w.number (k.own, w.here))

    pub take_out_first : length head ≡ 128 → at head v ≡ e + 1 → Moved w (set head v (at next e)) next
    take_out_first heads = take_first k w.node w.number w.here w.chained (omega (arith, w.node, w.small))

    pub take_out_after : {r : ℕ} → length next ≡ 256 → suc e < at head v → Found r → Moved w head (set next r (at next e))
    take_out_after nexts far is = take_after k w.node w.number w.here w.chained (omega (arith, found_in far is)) (found far is)
