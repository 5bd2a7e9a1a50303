-- Candidate e, with its end at v, joins a chain or leaves it. A chain is by falling number, so e stands after the last link above it: the pointer of that
-- link, or of the node where there is none, is the only one that changes, beside e's own. Assumes nothing.
use Rattle.std.specs.Prelude.{◌≡◌, List, ℕ, suc, ◌+◌, ◌≤◌, ◌<◌, length, set}
use Rattle.std.proofs.Common.{sym, ap, ◌∙◌, ⊎_elim, arith, length-set}
use Rattle.base_sums.specs.At.{Stored, store}
use Rattle.base_sums.specs.Each.{same_or_not, less_or_not}
use Rattle.plan_insert.specs.State.{at, LatestBelow, EndsAt, Chained}
use Rattle.plan_insert.specs.Joining.{Joins, Above}
use Rattle.plan_insert.specs.LatestBelow.{stays, raised, own_next, spared, lowered}

module _ {In In' : ℕ → Type 0} {ends : ℕ → ℕ} {e : ℕ} (k : Joins In In' e) {cells : ℕ} {head next : List ℕ} {v : ℕ} (node : v ≤ cells) (number : e < 256) (here : ends e ≡ v) where
  module _ (c : Chained cells In ends head next) where
    few_new : (i : ℕ) → In' i → i < 256
    few_new i o = ⊎_elim (λ (q : i ≡ e). omega arith) (λ n. c.few i (k.rest i o n)) (same_or_not i e)

    -- no link is above e
    pub put_first : v < length head → e < length next → at head v ≤ e → Chained cells In' ends (set head v (e + 1)) (set next e (at head v))
    put_first in_head in-next first = record {
      few = few_new;
      heads = λ w l. ⊎_elim
          (λ (q : w ≡ v). rw ((store 0 head v (e + 1) in_head).here w q) (raised k (here ∙ sym q) number (omega (arith, ap (at head) q)) (c.heads w l)))
          (λ n. rw ((store 0 head v (e + 1) in_head).elsewhere w n) (stays k (λ h q. absurd (n (sym q ∙ here))) (c.heads w l)))
          (same_or_not w v);
      nexts = λ j o. ⊎_elim
          (λ (q : j ≡ e). rw ((store 0 next e (at head v) in-next).here j q, q, here) (own_next k number first (c.heads v node)))
          (λ n. let i = k.rest j o n in
          rw ((store 0 next e (at head v) in-next).elsewhere j n)
          (stays k (λ h q. absurd (omega (arith, (c.heads v node).last j (c.few j i) (i, sym q ∙ here)))) (c.nexts j i)))
          (same_or_not j e);
    }

    -- link r is the last above e
    pub put_after : {r : ℕ} → e < length next → r < length next → Above In ends next v e r → Chained cells In' ends head (set (set next e (at next r)) r (e + 1))
    put_after {r} e-in r-in b = record {
      few = few_new;
      heads = λ w l. stays k (λ h q. omega (arith, (c.heads w l).last r (c.few r b.link) (b.link, b.end_at ∙ sym here ∙ q), b.above)) (c.heads w l);
      nexts = λ j o. ⊎_elim
          (λ (q : j ≡ r). rw (after_r.here j q, q) (raised k (here ∙ sym b.end_at) b.above earlier (c.nexts r b.link)))
          (λ n. rw (after_r.elsewhere j n) (⊎_elim
          (λ (q : j ≡ e). rw ((store 0 next e (at next r) e-in).here j q, q, here ∙ sym b.end_at) (own_next k b.above earlier (c.nexts r b.link)))
          (λ m. let i = k.rest j o m in rw ((store 0 next e (at next r) e-in).elsewhere j m) (stays k (λ h q. later j n i h (sym q ∙ here)) (c.nexts j i)))
          (same_or_not j e)))
          (same_or_not j r);
    }
      where
        after_r : Stored 0 (set next e (at next r)) r (e + 1) (set (set next e (at next r)) r (e + 1))
        after_r = store 0 (set next e (at next r)) r (e + 1) (rw length-set r-in)

        earlier : at next r ≤ e
        earlier = ⊎_elim (λ (q : at next r ≡ suc e). absurd (k.outside ((c.nexts r b.link).one e q).0)) (λ n. omega (arith, b.last)) (same_or_not (at next r) (suc e))

        -- any other link above e is above r
        later : (j : ℕ) → (j ≡ r → ⊥) → In j → e < j → ends j ≡ v → e < at next j
        later j n i h q =
            ⊎_elim
            (λ (l : j < r). absurd (omega (arith, (c.nexts r b.link).last j l (i, q ∙ sym b.end_at), b.last)))
            (λ l. omega (arith, (c.nexts j i).last r (omega arith) (b.link, b.end_at ∙ sym q), b.above))
            (less_or_not j r)

  module _ (c : Chained cells In' ends head next) where
    few_old : (i : ℕ) → In i → i < 256
    few_old i o = c.few i (k.stay i o)

    -- e is the first link
    pub take_first : v < length head → at head v ≡ e + 1 → Chained cells In ends (set head v (at next e)) next
    take_first in_head first = record {
      few = few_old;
      heads = λ w l. ⊎_elim
          (λ (q : w ≡ v). rw ((store 0 head v (at next e) in_head).here w q) (lowered k (omega (arith, ap (at head) q)) (c.heads w l) (c.nexts e k.own)))
          (λ n. rw ((store 0 head v (at next e) in_head).elsewhere w n) (spared k (λ q. n (sym ((c.heads w l).one e q).1 ∙ here)) (c.heads w l)))
          (same_or_not w v);
      nexts = λ j o. let i = k.stay j o in let l = c.nexts j i in
          spared k (λ q. omega (arith, l.upto, (c.heads v node).last j (c.few j i) (i, sym (l.one e q).1 ∙ here))) l;
    }

    -- link r comes before it
    pub take_after : {r : ℕ} → r < length next → Above In' ends next v e r → Chained cells In ends head (set next r (at next e))
    take_after {r} r-in b = record {
      few = few_old;
      heads = λ w l. spared k (λ q. omega (arith, b.above, (c.heads w l).last r (c.few r b.link) (b.link, b.end_at ∙ sym here ∙ ((c.heads w l).one e q).1))) (c.heads w l);
      nexts = λ j o. let i = k.stay j o in ⊎_elim
          (λ (q : j ≡ r). rw ((store 0 next r (at next e) r-in).here j q, q) (lowered k to_e (c.nexts r b.link) (c.nexts e k.own)))
          (λ n. rw ((store 0 next r (at next e) r-in).elsewhere j n) (spared k (λ q. other j n i q (c.nexts j i)) (c.nexts j i)))
          (same_or_not j r);
    }
      where
        to_e : at next r ≡ suc e
        to_e = omega (arith, b.last, (c.nexts r b.link).last e b.above (k.own, here ∙ sym b.end_at))

        -- no other link leads to e
        other : (j : ℕ) → (j ≡ r → ⊥) → In' j → at next j ≡ suc e → LatestBelow (EndsAt In' ends (ends j)) j (at next j) → ⊥
        other j n i q l =
            let same : ends j ≡ v = sym (l.one e q).1 ∙ here in
            ⊎_elim
            (λ (h : j < r). omega (arith, l.upto, b.last, (c.nexts r b.link).last j h (i, same ∙ sym b.end_at)))
            (λ h. omega (arith, b.above, l.last r (omega arith) (b.link, b.end_at ∙ sym same)))
            (less_or_not j r)
