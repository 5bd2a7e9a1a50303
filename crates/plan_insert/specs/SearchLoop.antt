-- The search's loop. Between two turns a is still open, and the clock and the nodes still open come to one count: each turn settles one node and moves
-- the clock by one, so the loop ends. A turn finds the list empty, that is, no open node nearer than `most`, or settles a, or settles another node,
-- which spreads. Assumes nothing.
use Rattle.std.specs.Prelude.{true, false, List, ◌≡◌, refl, ℕ, suc, ◌+◌, ◌-◌, ◌≤◌, ◌<◌, length, set}
use Rattle.std.proofs.Common.{⊎_elim, sym, ap, ◌∙◌, add-one, arith, length-set}
use Rattle.base_sums.specs.At.{Stored, store}
use Rattle.base_sums.specs.Each.{of_yes, less_or_not}
use Rattle.law_flow.specs.Balanced.{Proper}
use Rattle.law_flow.specs.Searching.{Ground, DeepAt, Searching}
use Rattle.law_flow.specs.SearchSteps.{search_start, settle, spread_done}
use Rattle.law_flow.specs.Ends.{reached, unreached}
use Rattle.plan_insert.specs.State.{at, Marks, marks, Listed, CanChoose, Chosen, Underway, Spreads, Nothing, AllDone, Fresh, Searched}
use Rattle.plan_insert.specs.Least.{Taken}
use Rattle.plan_insert.specs.OpenList.{listed_start, listed_upto, listed_take}
use Rattle.plan_insert.specs.OpenNodes.{open_nodes, open_all, open_less}

-- ---- between two turns

pub record Looking (g : Ground) (a b most : ℕ) (rank : List ℕ) (m : Marks) (floor clock : ℕ) : Type 0 where
  pub searching : Searching g b most (at m.label) (at rank) (at m.by) (at m.from) clock
  pub listed : Listed g.row.cells most (at m.label) (at rank) m.list m.size
  pub above : (w : ℕ) → w ≤ g.row.cells → at rank w ≡ 0 → floor ≤ at m.label w
  pub still : at rank a ≡ 0
  pub count : clock + open_nodes g.row.cells rank ≡ g.row.cells + 2
  pub ranks : length rank ≡ 128

pub look : {g : Ground} {a b most : ℕ} {label rank by from : List ℕ} (list : List ℕ) →
    g.row.cells ≤ 127 → a ≤ g.row.cells → b ≤ g.row.cells → 0 < most → length rank ≡ 128 → length list ≡ 128 →
    Fresh g.row.cells b most label rank → Looking g a b most rank (marks label by from (set list 0 b) 1) 0 1
look {g} {a} {b} {rank = rank} list small a_in b_in some ranks long f = record {
  searching = search_start f.root f.others f.still;
  listed = listed_start small (length-set list 0 b ∙ long) ((store 0 list 0 b (omega arith)).here 0 refl) b_in (f.still b b_in) (omega (arith, f.root)) f.others;
  above = λ w i z. omega arith;
  still = f.still a a_in;
  count = omega (arith, open_all g.row.cells rank f.still);
  ranks = ranks;
}

-- ---- a turn

module _ {g : Ground} {a b most floor clock : ℕ} {rank : List ℕ} {m : Marks} (l : Looking g a b most rank m floor clock) where
  pub look_lost : DeepAt g → Proper g.row g.t → a ≤ g.row.cells → m.size ≡ 0 → Searched g a b most m.label rank m.by m.from false
  look_lost deep proper node none = record { reached = λ e. absurd (of_yes e); unreached = λ e. unreached deep proper l.searching node l.still far }
    where
      far : (w : ℕ) → w ≤ g.row.cells → at rank w ≡ 0 → most ≤ at m.label w
      far w i z = ⊎_elim (λ h. let k = l.listed.all w i z h in absurd (omega (arith, k.1))) (λ h. h) (less_or_not (at m.label w) most)

  pub look_can : (m.size ≡ 0 → ⊥) → CanChoose m.label m.list m.size floor
  look_can some = record {
    some = omega arith;
    upto = listed_upto l.listed;
    node = λ i h. omega (arith, l.listed.node i h, l.listed.small);
    above = λ i h. l.above (at m.list i) (l.listed.node i h) (l.listed.waits i h);
  }

  -- the node u at place i is settled
  module _ {i : ℕ} (c : Chosen m.label m.list m.size i) where
    abbrev u : ℕ
    u = at m.list i

    pub look_place : (i < m.size) × (m.size ≤ 128)
    look_place = (c.inside, listed_upto l.listed)

    pub look_node : u ≤ g.row.cells
    look_node = l.listed.node i c.inside

    fresh : at rank u ≡ 0
    fresh = l.listed.waits i c.inside

    pub look_near : at m.label u < most
    look_near = l.listed.near i c.inside

    -- an open node that is not on the list is no nearer than most
    least : (w : ℕ) → w ≤ g.row.cells → at rank w ≡ 0 → at m.label u ≤ at m.label w
    least w j z =
        ⊎_elim
        (λ h. let k = l.listed.all w j z h in omega (arith, c.least k.0 k.1, ap (at m.label) k.2))
        (λ h. omega (arith, look_near))
        (less_or_not (at m.label w) most)

    ranked : Stored 0 rank u clock (set rank u clock)
    ranked = store 0 rank u clock (omega (arith, look_node, l.listed.small, l.ranks))

    pub look_found : DeepAt g → Proper g.row g.t → u ≡ a → Searched g a b most m.label (set rank u clock) m.by m.from true
    look_found deep proper q = record {
      reached = λ e. rw (← q) (reached deep proper l.searching look_node fresh look_near least (ranked.here u refl) (λ w i. ranked.elsewhere w));
      unreached = λ e. absurd (of_yes (sym e));
    }

    pub look_on : {m' : Marks} → (u ≡ a → ⊥) →
        Spreads g most Nothing AllDone u (marks m.label m.by m.from (set m.list i (at m.list (m.size - 1))) (m.size - 1)) m' →
        Looking g a b most (set rank u clock) m' (at m'.label u) (clock + 1)
    look_on {m'} n s = record {
      searching = rw add-one done;
      listed = spread.1;
      above = λ w j z. done.labels.near u w look_node j ticked z;
      still = ranked.elsewhere a (λ q. n (sym q)) ∙ l.still;
      count = omega (arith, l.count, open_less g.row.cells rank u clock look_node (omega (arith, look_node, l.listed.small, l.ranks)) fresh l.searching.labels.ticks);
      ranks = length-set rank u clock ∙ l.ranks;
    }
      where
        ticked : 0 < at (set rank u clock) u
        ticked = omega (arith, ranked.here u refl, l.searching.labels.ticks)

        spread : Underway g b most (at (set rank u clock)) (suc clock) u (AllDone g u) m'
        spread =
            s.on b (at (set rank u clock)) (suc clock)
            (settle l.searching look_node fresh look_near least (ranked.here u refl) (λ w i. ranked.elsewhere w), listed_take l.listed c.inside ticked (λ w j. ranked.elsewhere w))

        done : Searching g b most (at m'.label) (at (set rank u clock)) (at m'.by) (at m'.from) (suc clock)
        done = spread_done spread.0

  -- no node was on the list
  pub none_taken : {m' : Marks} → (m.size ≡ 0) × (m' ≡ m) → DeepAt g → Proper g.row g.t → a ≤ g.row.cells → Searched g a b most m'.label rank m'.by m'.from false
  none_taken e deep proper node = rw e.1 (look_lost deep proper node e.0)

  -- node u was taken off it
  module _ {m' : Marks} {u : ℕ} (t : Taken m m' u) where
    pub taken_node : u ≤ g.row.cells
    taken_node = rw t.node at (look_node t.chosen)

    pub taken_found : DeepAt g → Proper g.row g.t → u ≡ a → Searched g a b most m'.label (set rank u clock) m'.by m'.from true
    taken_found deep proper q = rw (← t.node, t.after) (look_found t.chosen deep proper (t.node ∙ q))

    pub taken_on : {m'' : Marks} → (u ≡ a → ⊥) → Spreads g most Nothing AllDone u m' m'' → Looking g a b most (set rank u clock) m'' (at m''.label u) (clock + 1)
    taken_on n s = rw (← t.node) (look_on t.chosen (λ q. n (sym t.node ∙ q)) (rw (← t.node, t.after) at s))
