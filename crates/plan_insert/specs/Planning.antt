-- The planner's loop over the candidates: after t turns the row stands with its first t candidates, and the chains hold just those, by their flags. It starts
-- on the empty row, which steps down at cells without room only, and a turn inserts one candidate more. Assumes nothing.
use Rattle.std.specs.Prelude.{Bool, true, false, List, ◌≡◌, refl, ℕ, suc, ◌≤◌, ◌<◌, replicate, ℤ}
use Rattle.std.proofs.Common.{arith}
use Rattle.base_sums.specs.At.{zeros}
use Rattle.law_flow.specs.Certificate.{empty_balanced}
use Rattle.plan_insert.specs.Fewer.{proper_fewer, below_fewer}
use Rattle.plan_insert.specs.State.{at, Flagged, Chained, Links, links, Chains, Stepped, Standing, CanPlan, CanInsert}

-- after t turns
pub record Planning (limit : ℕ → ℕ) (count cells t : ℕ) (lo hi : List ℕ) (cost : List ℤ) (kept : List Bool) (room : List ℕ) (dist : List ℤ) (ls : Links) : Type 0 where
  pub upto : t ≤ count
  pub standing : Standing limit count cells t lo hi cost kept room dist
  pub chains : Chains cells t (at lo) (at hi) kept ls

-- with no candidate yet every chain is empty
no_chain : {cells : ℕ} (side : Bool) (kept : List Bool) (ends : ℕ → ℕ) (next : List ℕ) → Chained cells (Flagged side 0 kept) ends (replicate 128 0) next
no_chain side kept ends next = record {
  few = λ i o. absurd (omega (arith, o.0));
  heads = λ v l. rw (zeros 128 v) (record { upto = omega arith; one = λ i q. absurd (omega arith); last = λ i h o. absurd (omega (arith, o.0.0)) });
  nexts = λ j o. absurd (omega (arith, o.0));
}

-- `limit` is the room that each cell has at the start
module _ {cells count : ℕ} {lo hi : List ℕ} {cost : List ℤ} {limit : List ℕ} (p : CanPlan cells count lo hi cost limit) where
  pub planning_starts : {dist : List ℤ} (kept : List Bool) (next next' : List ℕ) → Stepped cells limit dist → Planning (at limit) count cells 0 lo hi cost kept limit dist (links (replicate 128 0) next (replicate 128 0) next')
  planning_starts kept next next' stepped = record {
    upto = omega arith;
    standing = record {
      balanced = empty_balanced (λ j l. refl) stepped.rises stepped.level;
      dists = record { not_above = λ v l. stepped.not_above v (omega arith); upto = λ v l. omega (arith, stepped.upto v (omega arith)) };
    };
    chains = record { dropped = no_chain false kept (at lo) next; held = no_chain true kept (at hi) next' };
  }

  module _ {t : ℕ} {kept : List Bool} {room : List ℕ} {dist : List ℤ} {ls : Links}
      (q : Planning (at limit) count cells t lo hi cost kept room dist ls) (more : t < count)
    where
      -- the next candidate can be inserted
      pub insertable : CanInsert cells t lo hi cost kept room dist ls
      insertable = record {
        cells_upto = p.cells_upto;
        t_upto = omega arith;
        proper = proper_fewer more p.proper;
        costs = below_fewer more (omega arith) p.costs;
        limit = at limit;
        count = count;
        limits = p.limits;
        standing = q.standing;
        chains = q.chains;
      }

      -- and once it is, the turn is over
      pub planning_goes_on : {kept' : List Bool} {room' : List ℕ} {dist' : List ℤ} {ls' : Links} →
          ((w : CanInsert cells t lo hi cost kept room dist ls) → Standing w.limit w.count cells (suc t) lo hi cost kept' room' dist') →
          Chains cells (suc t) (at lo) (at hi) kept' ls' → Planning (at limit) count cells (suc t) lo hi cost kept' room' dist' ls'
      unfolding insertable
      planning_goes_on inserted chained = record { upto = more; standing = inserted insertable; chains = chained }

-- after the last turn every candidate is in
pub planned : {limit : ℕ → ℕ} {count cells t : ℕ} {lo hi : List ℕ} {cost : List ℤ} {kept : List Bool} {room : List ℕ} {dist : List ℤ} {ls : Links} →
    Planning limit count cells t lo hi cost kept room dist ls → count ≤ t → Standing limit count cells count lo hi cost kept room dist
planned {count} {t} q done = let e : t ≡ count = omega arith in rw e at q.standing
