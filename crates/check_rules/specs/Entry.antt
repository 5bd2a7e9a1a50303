-- One entry against its request's two ends, by numbers alone (01, "Routes and a plan that obeys the rules"), and the whole plan laid out in columns,
-- a place a request and a turn of the loop a place. Assumes nothing.
use Rattle.std.specs.Prelude.{Bool, true, false, ◌&&◌, ◌||◌, List, ◌≡◌, refl, ℕ, ◌+◌, ◌/◌, ◌%◌, ◌<◌, min, max, length, set, leb, ltb, eqb}
use Rattle.std.proofs.Common.{sym, arith, below_more, length-set}
use Rattle.base_sums.specs.At.{flag, Stored, store}
use Rattle.base_sums.specs.Each.{each, each_of, of_yes}
use Rattle.base_sums.specs.Sums.{when}
use Rattle.base_sums.specs.Turns.{each_fails}
use Rattle.base_sums.specs.Filled.{Filled, filled_none, filled_more}
use Rattle.paper_book.specs.Bytes.{entry_in}
use Rattle.paper_book.specs.Columns.{at}
use Rattle.paper_rules.specs.Ways.{way_from}
use Rattle.paper_rules.specs.Plans.{Plan, kept, channel}

-- the entry is 0, or it has the way that exists from a to b and a channel from 1 to k
unfoldable pub formed_at : ℕ → ℕ → ℕ → ℕ → Bool
formed_at k a b entry = eqb entry 0 || (eqb (entry / 256) (way_from a b) && (ltb 0 (entry % 256) && leb (entry % 256) k))

-- entry i of a list against request i
abbrev pub formed_in : ℕ → List ℕ → List ℕ → List ℕ → ℕ → Bool
formed_in k a b entries i = formed_at k (at a i) (at b i) (entry_in entries i)

-- a plan laid out in columns: where each request begins, where it ends, whether it crosses a span at all, and its channel; one that is not kept begins and
-- ends at 0
pub record PlanLaidOut (count : ℕ) (a b : List ℕ) (plan : Plan) (lo hi : List ℕ) (crossing : List Bool) (channels : List ℕ) : Type 0 where
  pub lo_is : Filled (λ i. when (kept plan i) (min (at a i) (at b i))) count lo
  pub hi_is : Filled (λ i. when (kept plan i) (max (at a i) (at b i))) count hi
  pub crossing_is : (i : ℕ) → i < count → flag crossing i ≡ ltb (at lo i) (at hi i)
  pub channel_is : Filled (channel plan) count channels

-- the answer is whether every entry by itself obeys the rules; where they all do, the plan is laid out
pub record Lays (answer : Bool) (k count : ℕ) (a b entries lo hi : List ℕ) (crossing : List Bool) (channels : List ℕ) : Type 0 where
  pub formed : answer ≡ each count (formed_in k a b entries)
  pub laid : answer ≡ true → PlanLaidOut count a b (entry_in entries) lo hi crossing channels

module _ {k count : ℕ} {a b entries lo hi : List ℕ} {crossing : List Bool} {channels : List ℕ} where
  pub lays_wrong : (i : ℕ) → i < count → formed_in k a b entries i ≡ false → Lays false k count a b entries lo hi crossing channels
  lays_wrong i l e = record { formed = sym (each_fails count _ i l e); laid = λ f. absurd (of_yes f) }

  pub lays_all :
      ((i : ℕ) → i < count → formed_in k a b entries i ≡ true) → PlanLaidOut count a b (entry_in entries) lo hi crossing channels
      → Lays true k count a b entries lo hi crossing channels
  lays_all all out = record { formed = sym (each_of count _ all); laid = λ e. out }

-- the columns after some turns
pub record LayingPlan (count : ℕ) (a b : List ℕ) (plan : Plan) (lo hi : List ℕ) (crossing : List Bool) (channels : List ℕ) : Type 0 where
  pub so_far : PlanLaidOut count a b plan lo hi crossing channels
  pub lo_long : length lo ≡ 256
  pub hi_long : length hi ≡ 256
  pub crossing_long : length crossing ≡ 256
  pub channel_long : length channels ≡ 256

module _ {a b : List ℕ} {plan : Plan} where
  pub laying_none :
      (lo hi : List ℕ) (crossing : List Bool) (channels : List ℕ) → length lo ≡ 256 → length hi ≡ 256 → length crossing ≡ 256 → length channels ≡ 256
      → LayingPlan 0 a b plan lo hi crossing channels
  laying_none lo hi crossing channels l h k c = record {
    so_far = record { lo_is = filled_none _ lo; hi_is = filled_none _ hi; crossing_is = λ i l. absurd (omega arith); channel_is = filled_none _ channels };
    lo_long = l;
    hi_long = h;
    crossing_long = k;
    channel_long = c;
  }

  pub laying_more :
      {i : ℕ} {lo hi : List ℕ} {crossing : List Bool} {channels : List ℕ} (from upto held : ℕ) → LayingPlan i a b plan lo hi crossing channels → i < 256
      → from ≡ when (kept plan i) (min (at a i) (at b i)) → upto ≡ when (kept plan i) (max (at a i) (at b i)) → held ≡ channel plan i
      → LayingPlan (i + 1) a b plan (set lo i from) (set hi i upto) (set crossing i (ltb from upto)) (set channels i held)
  laying_more {i} {lo} {hi} {crossing} from upto held was l p q r = record {
    so_far = record {
      lo_is = filled_more from was.so_far.lo_is (omega (arith, was.lo_long)) p;
      hi_is = filled_more upto was.so_far.hi_is (omega (arith, was.hi_long)) q;
      crossing_is = below_more (λ (j : ℕ). flag (set crossing i (ltb from upto)) j ≡ ltb (at (set lo i from) j) (at (set hi i upto) j)) i before here;
      channel_is = filled_more held was.so_far.channel_is (omega (arith, was.channel_long)) r;
    };
    lo_long = simp length-set was.lo_long;
    hi_long = simp length-set was.hi_long;
    crossing_long = simp length-set was.crossing_long;
    channel_long = simp length-set was.channel_long;
  }
    where
      crossing_now : Stored false crossing i (ltb from upto) (set crossing i (ltb from upto))
      crossing_now = store false crossing i (ltb from upto) (omega (arith, was.crossing_long))

      lo_now : Stored 0 lo i from (set lo i from)
      lo_now = store 0 lo i from (omega (arith, was.lo_long))

      hi_now : Stored 0 hi i upto (set hi i upto)
      hi_now = store 0 hi i upto (omega (arith, was.hi_long))

      before : (j : ℕ) → j < i → flag (set crossing i (ltb from upto)) j ≡ ltb (at (set lo i from) j) (at (set hi i upto) j)
      before j h =
          let ne : j ≡ i → ⊥ = λ q. omega arith in
          rw (crossing_now.elsewhere j ne, lo_now.elsewhere j ne, hi_now.elsewhere j ne) (was.so_far.crossing_is j h)

      here : flag (set crossing i (ltb from upto)) i ≡ ltb (at (set lo i from) i) (at (set hi i upto) i)
      here = rw (crossing_now.here i refl, lo_now.here i refl, hi_now.here i refl)
