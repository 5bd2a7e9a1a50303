-- The four ways out of an insertion, on the arrays: the candidate is kept at once, is worth no more than its cells' prices, is kept by a walk
-- back, or no way back is short enough. Each ends with the row standing, with one candidate more. Assumes nothing.
use Rattle.std.specs.Prelude.{Bool, true, false, List, ◌≡◌, refl, ℕ, suc, ◌+◌, ◌-◌, ◌≤◌, ◌<◌, get_or, length, set, ℤ, pos}
use Rattle.std.proofs.Common.{arith, SFits}
use Rattle.std.specs.Int.{w64}
use Rattle.base_signed.specs.Parts.{dn}
use Rattle.base_signed.specs.Bits.{rd, back}
use Rattle.law_row.specs.Meets.{first_in}
use Rattle.law_flow.specs.Balanced.{Balanced}
use Rattle.law_flow.specs.Certificate.{fare_depth, dropped_at_once}
use Rattle.law_flow.specs.Insert.{insert_free, insert_dropped, insert_walks}
use Rattle.law_flow.specs.Raise.{raised, raised_upto}
use Rattle.base_sums.specs.At.{Stored, store}
use Rattle.base_sums.specs.Between.{between}
use Rattle.plan_insert.specs.Bare.{proper_limited, deep_limited, reached_limited, unreached_limited}
use Rattle.plan_insert.specs.Fewer.{proper_fewer, below_fewer}
use Rattle.plan_insert.specs.SameDepths.{balanced_same}
use Rattle.plan_insert.specs.State.{at, flag, depth, row_in, ground_in, Ready, Deepened, Gains, Searched, Links, Chains, Standing, CanInsert, CanWalk}

-- what candidate t gains at these distances, over its cells' prices
abbrev pub gain_in : ℕ → List ℕ → List ℕ → List ℤ → List ℤ → ℕ
gain_in t lo hi cost dist = depth dist (at lo t) + depth cost t - depth dist (at hi t)

module _ {cells t : ℕ} {lo hi : List ℕ} {cost : List ℤ} {kept : List Bool} {room : List ℕ} {dist : List ℤ} {ls : Links}
    (w : CanInsert cells t lo hi cost kept room dist ls)
  where
    -- ---- what the calls ask

    -- its ends are nodes
    pub inside : at hi t ≤ cells
    inside = w.proper.in_row t (omega arith)

    ordered : at lo t < at hi t
    ordered = w.proper.some_cell t (omega arith)

    pub first_inside : at lo t ≤ cells
    first_inside = first_in w.proper t (omega arith)

    pub ready : Ready cells t lo hi cost kept room dist
    ready = record {
      cells_upto = w.cells_upto;
      t_upto = omega arith;
      proper = proper_fewer (omega arith) w.proper;
      costs = below_fewer (omega arith) (omega arith) w.costs;
      dists = below_fewer (omega arith) (omega arith) w.standing.dists;
      deep = deep_limited w.standing.balanced.deep;
    }

    gains : Gains (get_or cost t (pos 0)) (get_or dist (at lo t) (pos 0)) (get_or dist (at hi t) (pos 0))
    gains = record {
      cost_not_above = w.costs.not_above t (omega arith);
      cost_low = w.costs.upto t (omega arith);
      near_not_above = ready.dists.not_above (at lo t) (omega (arith, first_inside));
      near_low = ready.dists.upto (at lo t) (omega (arith, first_inside));
      far_not_above = ready.dists.not_above (at hi t) (omega (arith, inside));
      far_low = ready.dists.upto (at hi t) (omega (arith, inside));
    }

    -- the same of the numbers as the code reads them, and what the code makes of them
    module _ (cost-fits : SFits w64 (get_or cost t (pos 0))) (Near-fits : SFits w64 (get_or dist (at lo t) (pos 0))) (far-fits : SFits w64 (get_or dist (at hi t) (pos 0))) where
      pub gains_read : Gains (rd (get_or cost t (pos 0))) (rd (get_or dist (at lo t) (pos 0))) (rd (get_or dist (at hi t) (pos 0)))
      gains_read = rw (back cost-fits, back Near-fits, back far-fits) gains

      pub gain_read : {gain : ℕ} → gain ≡ dn (rd (get_or dist (at lo t) (pos 0))) + dn (rd (get_or cost t (pos 0))) - dn (rd (get_or dist (at hi t) (pos 0))) → gain ≡ gain_in t lo hi cost dist
      gain_read is = rw (back cost-fits, back Near-fits, back far-fits) at is

    -- a candidate gains at most its profit, since the row deepens from its first node to its last
    pub gain_upto : gain_in t lo hi cost dist ≤ 1000000
    gain_upto =
        omega (
          arith,
          fare_depth (row_in w.limit w.count cells lo hi cost) w.standing.balanced.deep.rises t (omega (arith, ordered)) inside,
          w.costs.upto t (omega arith),
        )

    -- ---- the new flag

    flagged : (v : Bool) → length kept ≡ 256 → Stored false kept t v (set kept t v)
    flagged v long = store false kept t v (omega arith)

    others : (v : Bool) → length kept ≡ 256 → (i : ℕ) → i < t → flag (set kept t v) i ≡ flag kept i
    others v long i l = (flagged v long).elsewhere i (λ q. omega arith)

    -- ---- the four ways

    -- every cell of it has room
    pub kept_at_once : {room' : List ℕ} → length kept ≡ 256 → ((j : ℕ) → at lo t ≤ j → j < at hi t → 0 < at room j) → ((j : ℕ) → at room' j + between (at lo t) (at hi t) j ≡ at room j) →
        Standing w.limit w.count cells (suc t) lo hi cost (set kept t true) room' dist
    kept_at_once long free taken = record {
      balanced = insert_free (proper_limited w.proper) w.standing.balanced (others true long) ((flagged true long).here t refl) free (λ j l. taken j);
      dists = below_fewer (omega arith) (omega arith) w.standing.dists;
    }

    -- it gains nothing
    pub dropped_unasked : length kept ≡ 256 → gain_in t lo hi cost dist ≡ 0 → Standing w.limit w.count cells (suc t) lo hi cost (set kept t false) room dist
    dropped_unasked long worthless = record {
      balanced = dropped_at_once w.standing.balanced (others false long) ((flagged false long).here t refl) (omega arith);
      dists = below_fewer (omega arith) (omega arith) w.standing.dists;
    }

    -- what is balanced at the depths after a search stands at the distances that the search leaves
    deepened : {to : ℕ} {label : List ℕ} {kept' : List Bool} {room' : List ℕ} {dist' : List ℤ} → to ≤ 1000000 → Deepened cells to label dist dist' →
        Balanced (row_in w.limit w.count cells lo hi cost) (suc t) (flag kept') (at room') (raised to (depth dist) (at label)) → Standing w.limit w.count cells (suc t) lo hi cost kept' room' dist'
    deepened {label} small deeper b = record {
      balanced = balanced_same (proper_limited w.proper) deeper.deeper b;
      dists = record {
        not_above = λ i l. deeper.not_above i (omega arith);
        upto = λ i l. omega (arith, deeper.deeper i (omega arith), raised_upto {cells = cells} {v = i} (at label) (λ v h. w.standing.dists.upto v (omega arith)) small (omega arith));
      };
    }

    module _ {gain : ℕ} (long : length kept ≡ 256) (is : gain ≡ gain_in t lo hi cost dist) (some : gain ≡ 0 → ⊥) where
      -- no way back is short enough
      pub dropped_after : {label rank by from : List ℕ} {found : Bool} {dist' : List ℤ} → Searched (ground_in cells t lo hi cost kept room dist) (at lo t) (at hi t) gain label rank by from found → found ≡ false → Deepened cells gain label dist dist' →
          Standing w.limit w.count cells (suc t) lo hi cost (set kept t false) room dist'
      dropped_after s miss deeper = deepened (omega (arith, gain_upto)) deeper (insert_dropped (proper_limited w.proper) w.standing.balanced (omega arith) (others false long) (unreached_limited (s.unreached miss)) ((flagged false long).here t refl))

      -- a way back was found: it can be walked
      pub walkable : {label rank by from : List ℕ} {found : Bool} → Searched (ground_in cells t lo hi cost kept room dist) (at lo t) (at hi t) gain label rank by from found → found ≡ true →
          {kept' : List Bool} {ls' : Links} → kept' ≡ set kept t true → Chains cells (suc t) (at lo) (at hi) kept' ls' → CanWalk kept' room ls' rank by from (at lo t) (at hi t)
      walkable {label} s hit on c = record {
        row = row_in w.limit w.count cells lo hi cost;
        t = suc t;
        N = raised (at label (at lo t)) (depth dist) (at label);
        cells_upto = w.cells_upto;
        t_upto = w.t_upto;
        proper = proper_limited w.proper;
        limits = w.limits;
        walking = rw on (insert_walks (proper_limited w.proper) w.standing.balanced (omega arith) (others true long) (reached_limited (s.reached hit)) ((flagged true long).here t refl));
        chains = c;
      }

      -- and once it is walked the row stands, and the chains follow its flags
      module _ {label rank by from : List ℕ} {found : Bool} {kept' : List Bool} {ls' : Links} (s : Searched (ground_in cells t lo hi cost kept room dist) (at lo t) (at hi t) gain label rank by from found) (hit : found ≡ true)
          (on : kept' ≡ set kept t true) (c : Chains cells (suc t) (at lo) (at hi) kept' ls')
        where
          pub kept_by_walk : {kept'' : List Bool} {room' : List ℕ} {dist' : List ℤ} → Deepened cells (at label (at lo t)) label dist dist' →
              ((v : CanWalk kept' room ls' rank by from (at lo t) (at hi t)) → Balanced v.row v.t (flag kept'') (at room') v.N) → Standing w.limit w.count cells (suc t) lo hi cost kept'' room' dist'
          unfolding walkable
          kept_by_walk deeper walked = deepened (omega (arith, gain_upto, (s.reached hit).shorter)) deeper (walked (walkable s hit on c))

          pub chains_walked : {kept'' : List Bool} {ls'' : Links} →
              ((v : CanWalk kept' room ls' rank by from (at lo t) (at hi t)) → Chains v.row.cells v.t v.row.lo v.row.hi kept'' ls'') → Chains cells (suc t) (at lo) (at hi) kept'' ls''
          unfolding walkable
          chains_walked walked = walked (walkable s hit on c)
