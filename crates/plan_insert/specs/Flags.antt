-- The chains follow the flags. A new candidate enters the chain of its flag; one that is turned round leaves one chain and enters the other; and no other
-- candidate changes its chain. Assumes nothing.
use Rattle.std.specs.Prelude.{Bool, true, false, not, List, ◌≡◌, refl, ℕ, suc, ◌≤◌, ◌<◌, length, set}
use Rattle.std.proofs.Common.{true≢false, ⊎_elim, sym, ap, ◌∙◌, arith}
use Rattle.std.proofs.lemmas.Bool.{false≢true}
use Rattle.base_sums.specs.At.{Stored, store}
use Rattle.base_sums.specs.Each.{same_or_not}
use Rattle.law_row.specs.Row.{Row}
use Rattle.plan_insert.specs.State.{flag, Flagged, Chained, Links, links, Chains, CanTurn, TurnedRound}
use Rattle.plan_insert.specs.Joining.{Joins, Moves, CanPutIn, CanTakeOut, Moved}
use Rattle.plan_insert.specs.LatestBelow.{chained_same}

-- ---- flags

-- candidate t is new
module _ (kept : List Bool) {t : ℕ} (side : Bool) (long : t < length kept) where
  new : Stored false kept t side (set kept t side)
  new = store false kept t side long

  pub new_joins : Joins (Flagged side t kept) (Flagged side (suc t) (set kept t side)) t
  new_joins = record {
    stay = λ i o. (omega (arith, o.0), new.elsewhere i (λ q. omega (arith, o.0)) ∙ o.1);
    own = (omega arith, new.here t refl);
    rest = λ i o n. (omega (arith, o.0), sym (new.elsewhere i n) ∙ o.1);
    outside = λ o. omega (arith, o.0);
  }

  -- and with the other flag are the same as before
  same_new : {other : Bool} (i : ℕ) → Flagged other t kept i → Flagged other (suc t) (set kept t side) i
  same_new i o = (omega (arith, o.0), new.elsewhere i (λ q. omega (arith, o.0)) ∙ o.1)

  new_same : {other : Bool} → (side ≡ other → ⊥) → (i : ℕ) → Flagged other (suc t) (set kept t side) i → Flagged other t kept i
  new_same apart i o = ⊎_elim (λ q. absurd (apart (sym (new.here i q) ∙ o.1))) (λ n. (omega (arith, o.0), sym (new.elsewhere i n) ∙ o.1)) (same_or_not i t)

-- candidate e gets another flag
module _ (kept : List Bool) {t : ℕ} {side other : Bool} (apart : side ≡ other → ⊥) {e : ℕ} (l : e < t) (long : e < length kept) where
  pub turned_in : flag kept e ≡ other → Joins (Flagged side t kept) (Flagged side t (set kept e side)) e
  turned_in was = record {
    stay = λ i o. (o.0, now.elsewhere i (λ q. apart (sym o.1 ∙ ap (flag kept) q ∙ was)) ∙ o.1);
    own = (l, now.here e refl);
    rest = λ i o n. (o.0, sym (now.elsewhere i n) ∙ o.1);
    outside = λ o. apart (sym o.1 ∙ was);
  }
    where
      now : Stored false kept e side (set kept e side)
      now = store false kept e side long

  pub turned_out : flag kept e ≡ side → Joins (Flagged side t (set kept e other)) (Flagged side t kept) e
  turned_out was = record {
    stay = λ i o. (o.0, sym (now.elsewhere i (λ q. apart (sym o.1 ∙ now.here i q))) ∙ o.1);
    own = (l, was);
    rest = λ i o n. (o.0, now.elsewhere i n ∙ o.1);
    outside = λ o. apart (sym o.1 ∙ now.here e refl);
  }
    where
      now : Stored false kept e other (set kept e other)
      now = store false kept e other long

-- ---- a candidate enters

module _ {cells t : ℕ} {ends : ℕ → ℕ} {head next : List ℕ} (kept : List Bool) (side : Bool) (small : cells ≤ 127) (t_upto : t < 256) (node : ends t ≤ cells) (long : length kept ≡ 256)
    (c : Chained cells (Flagged side t kept) ends head next)
  where
    abbrev pub enters : CanPutIn head next (ends t) t
    enters = (
      record {
        cells = cells;
        ends = ends;
        side = side;
        t = t;
        t' = suc t;
        kept = kept;
        kept' = set kept t side;
        small = small;
        node = node;
        number = t_upto;
        here = refl;
        chained = c;
      },
      new_joins kept side (omega arith),
    )

-- the other chains are as they were
module _ {cells t : ℕ} {lo hi : ℕ → ℕ} {kept kept' : List Bool} {ls : Links} {head next : List ℕ} (long : t < length kept) (c : Chains cells t lo hi kept ls) where
  pub entered_kept : kept' ≡ set kept t true → Chained cells (Flagged true (suc t) kept') hi head next → Chains cells (suc t) lo hi kept' (links ls.head_lo ls.next_lo head next)
  entered_kept is put = record { dropped = rw is (chained_same (same_new kept true long) (new_same kept true long true≢false) c.dropped); held = put }

  pub entered_dropped : kept' ≡ set kept t false → Chained cells (Flagged false (suc t) kept') lo head next → Chains cells (suc t) lo hi kept' (links head next ls.head_hi ls.next_hi)
  entered_dropped is put = record { dropped = put; held = rw is (chained_same (same_new kept false long) (new_same kept false long false≢true) c.held) }

-- ---- a candidate is turned round

module _ {row : Row} {t e u v : ℕ} {kept : List Bool} {ls : Links} (w : CanTurn row t kept ls e u v) (long : length kept ≡ 256) where
  pub place : e < length kept
  place = omega (arith, w.candidate, w.t_upto)

  abbrev moves : {head next : List ℕ} {n : ℕ} (ends : ℕ → ℕ) (side now : Bool) → n ≤ row.cells → n ≡ ends e → Chained row.cells (Flagged side t kept) ends head next → Moves head next n e
  moves ends side now node here chained = record {
    cells = row.cells;
    ends = ends;
    side = side;
    t = t;
    t' = t;
    kept = kept;
    kept' = set kept e now;
    small = w.cells_upto;
    node = node;
    number = omega (arith, place);
    here = sym here;
    chained = chained;
  }

  -- from kept to dropped
  module _ (was : flag kept e ≡ true) where
    abbrev pub drop_out : CanTakeOut ls.head_hi ls.next_hi u e
    drop_out = (moves row.hi true false w.near_in (w.back was).0 w.chains.held, turned_out kept true≢false w.candidate place was)

    abbrev pub drop_in : CanPutIn ls.head_lo ls.next_lo v e
    drop_in = (moves row.lo false false w.far_in (w.back was).1 w.chains.dropped, turned_in kept false≢true w.candidate place was)

  -- from dropped to kept
  module _ (was : flag kept e ≡ false) where
    abbrev pub keep_out : CanTakeOut ls.head_lo ls.next_lo u e
    keep_out = (moves row.lo false true w.near_in (w.along was).0 w.chains.dropped, turned_out kept false≢true w.candidate place was)

    abbrev pub keep_in : CanPutIn ls.head_hi ls.next_hi v e
    keep_in = (moves row.hi true true w.far_in (w.along was).1 w.chains.held, turned_in kept true≢false w.candidate place was)

module _ {kept : List Bool} {ls ls' : Links} {e u v : ℕ} (long : length kept ≡ 256) where
  pub turned_dropped : flag kept e ≡ true → ((w : CanTakeOut ls.head_hi ls.next_hi u e) → Moved w.0 ls'.head_hi ls'.next_hi) →
      ((w : CanPutIn ls.head_lo ls.next_lo v e) → Moved w.0 ls'.head_lo ls'.next_lo) → TurnedRound kept ls (set kept e false) ls' e u v
  turned_dropped was out into = record { flags = ap (set kept e) (ap not (sym was)); chains = λ row t w. record { dropped = into (drop_in w long was); held = out (drop_out w long was) } }

  pub turned_kept : flag kept e ≡ false → ((w : CanTakeOut ls.head_lo ls.next_lo u e) → Moved w.0 ls'.head_lo ls'.next_lo) →
      ((w : CanPutIn ls.head_hi ls.next_hi v e) → Moved w.0 ls'.head_hi ls'.next_hi) → TurnedRound kept ls (set kept e true) ls' e u v
  turned_kept was out into = record { flags = ap (set kept e) (ap not (sym was)); chains = λ row t w. record { dropped = out (keep_out w long was); held = into (keep_in w long was) } }
