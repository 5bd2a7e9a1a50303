-- What is asked and promised where a candidate joins a chain or leaves it. What is chained, and what shall be, are the candidates with one flag, before and
-- after; the functions are lent neither flags nor ends, so both are fields. Assumes nothing.
use Rattle.std.specs.Prelude.{Bool, List, ◌≡◌, ℕ, suc, ◌≤◌, ◌<◌}
use Rattle.plan_insert.specs.State.{at, Flagged, Chained}

-- these are those and e, which is none of them
pub record Joins (In In' : ℕ → Type 0) (e : ℕ) : Type 0 where
  pub stay : (i : ℕ) → In i → In' i
  pub own : In' e
  pub rest : (i : ℕ) → In' i → (i ≡ e → ⊥) → In i
  pub outside : In e → ⊥

-- a chain that candidate e, with its end at node v, joins or leaves
pub record Moves (head next : List ℕ) (v e : ℕ) : Type 0 where
  pub cells : ℕ
  pub ends : ℕ → ℕ
  pub side : Bool
  pub t : ℕ
  pub t' : ℕ
  pub kept : List Bool
  pub kept' : List Bool
  pub small : cells ≤ 127
  pub node : v ≤ cells
  pub number : e < 256
  pub here : ends e ≡ v
  pub chained : Chained cells (Flagged side t kept) ends head next

-- the candidates that are chained, and those that shall be
abbrev pub Before : {head next : List ℕ} {v e : ℕ} → Moves head next v e → ℕ → Type 0
Before w = Flagged w.side w.t w.kept

abbrev pub After : {head next : List ℕ} {v e : ℕ} → Moves head next v e → ℕ → Type 0
After w = Flagged w.side w.t' w.kept'

-- e can join the chain, or leave it, and what comes of either
abbrev pub CanPutIn : List ℕ → List ℕ → ℕ → ℕ → Type 0
CanPutIn head next v e = (w : Moves head next v e) × Joins (Before w) (After w) e

abbrev pub CanTakeOut : List ℕ → List ℕ → ℕ → ℕ → Type 0
CanTakeOut head next v e = (w : Moves head next v e) × Joins (After w) (Before w) e

abbrev pub Moved : {head next : List ℕ} {v e : ℕ} → Moves head next v e → List ℕ → List ℕ → Type 0
Moved w head' next' = Chained w.cells (After w) w.ends head' next'

-- a chain that can be followed from link j, which is above e
pub record CanFollow (next : List ℕ) (j e : ℕ) : Type 0 where
  pub cells : ℕ
  pub ends : ℕ → ℕ
  pub side : Bool
  pub t : ℕ
  pub kept : List Bool
  pub head : List ℕ
  pub chained : Chained cells (Flagged side t kept) ends head next
  pub link : Flagged side t kept j
  pub above : e < j

-- link r is the last above e
pub record Above (In : ℕ → Type 0) (ends : ℕ → ℕ) (next : List ℕ) (v e r : ℕ) : Type 0 where
  pub link : In r
  pub end_at : ends r ≡ v
  pub above : e < r
  pub last : at next r ≤ suc e
