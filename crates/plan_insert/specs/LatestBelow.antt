-- One pointer of a chain, when candidate e joins it or leaves it: it stays where it leads past e, or e is not on its way; it leads to e, or no longer; and
-- e's own pointer leads on to what comes after e. Assumes nothing.
use Rattle.std.specs.Prelude.{◌≡◌, List, ℕ, suc, ◌+◌, ◌≤◌, ◌<◌}
use Rattle.std.proofs.Common.{sym, ap, ◌∙◌, ⊎_elim, arith}
use Rattle.base_sums.specs.Each.{same_or_not}
use Rattle.plan_insert.specs.State.{LatestBelow, EndsAt, Chained}
use Rattle.plan_insert.specs.Joining.{Joins}

-- the same candidates, said in another way
pub chained_same : {cells : ℕ} {In In' : ℕ → Type 0} {ends : ℕ → ℕ} {head next : List ℕ} → ((i : ℕ) → In i → In' i) → ((i : ℕ) → In' i → In i) →
    Chained cells In ends head next → Chained cells In' ends head next
chained_same {In = In} {In'} {ends} there back c = record {
  few = λ i o. c.few i (back i o);
  heads = λ v l. same (c.heads v l);
  nexts = λ j o. same (c.nexts j (back j o));
}
  where
    same : {w bound p : ℕ} → LatestBelow (EndsAt In ends w) bound p → LatestBelow (EndsAt In' ends w) bound p
    same l = record { upto = l.upto; one = λ i q. let o = l.one i q in (there i o.0, o.1); last = λ i h o. l.last i h (back i o.0, o.1) }

module _ {In In' : ℕ → Type 0} {ends : ℕ → ℕ} {e : ℕ} (k : Joins In In' e) where
  -- ---- one pointer, when e joins

  -- it leads to a later one than e, or e has another end
  pub stays : {w bound p : ℕ} → (e < bound → ends e ≡ w → e < p) → LatestBelow (EndsAt In ends w) bound p → LatestBelow (EndsAt In' ends w) bound p
  stays far l = record {
    upto = l.upto;
    one = λ i q. let o = l.one i q in (k.stay i o.0, o.1);
    last = λ i h o. ⊎_elim (λ (q : i ≡ e). omega (arith, far (omega arith) (ap ends (sym q) ∙ o.1))) (λ n. l.last i h (k.rest i o.0 n, o.1)) (same_or_not i e);
  }

  -- it leads to an earlier one: now to e, and e's own to that one
  pub raised : {w bound p : ℕ} → ends e ≡ w → e < bound → p ≤ e → LatestBelow (EndsAt In ends w) bound p → LatestBelow (EndsAt In' ends w) bound (e + 1)
  raised here h upto l = record {
    upto = omega arith;
    one = λ i q. let s : i ≡ e = omega arith in rw s (k.own, here);
    last = λ i g o. ⊎_elim (λ (q : i ≡ e). omega arith) (λ n. omega (arith, l.last i g (k.rest i o.0 n, o.1))) (same_or_not i e);
  }

  pub own_next : {w bound p : ℕ} → e < bound → p ≤ e → LatestBelow (EndsAt In ends w) bound p → LatestBelow (EndsAt In' ends w) e p
  own_next h upto l = record {
    upto = upto;
    one = λ i q. let o = l.one i q in (k.stay i o.0, o.1);
    last = λ i g o. l.last i (omega arith) (k.rest i o.0 (λ q. omega arith), o.1);
  }

  -- ---- one pointer, when e leaves

  -- it does not lead to e
  pub spared : {w bound p : ℕ} → (p ≡ suc e → ⊥) → LatestBelow (EndsAt In' ends w) bound p → LatestBelow (EndsAt In ends w) bound p
  spared n l = record {
    upto = l.upto;
    one = λ i q. let o = l.one i q in (k.rest i o.0 (λ s. n (q ∙ ap suc s)), o.1);
    last = λ i h o. l.last i h (k.stay i o.0, o.1);
  }

  -- it leads to e: now to where e's own does
  pub lowered : {w bound p a : ℕ} → p ≡ suc e → LatestBelow (EndsAt In' ends w) bound p → LatestBelow (EndsAt In' ends (ends e)) e a → LatestBelow (EndsAt In ends w) bound a
  lowered is l own = record {
    upto = omega (arith, l.upto, own.upto);
    one = λ i q. let o = own.one i q in (k.rest i o.0 (λ s. omega (arith, own.upto)), o.1 ∙ (l.one e is).1);
    last = λ i h o. ⊎_elim
        (λ (s : i ≡ e). absurd (k.outside (rw s at o.0)))
        (λ n. own.last i (omega (arith, l.last i h (k.stay i o.0, o.1))) (k.stay i o.0, o.1 ∙ sym (l.one e is).1))
        (same_or_not i e);
  }
