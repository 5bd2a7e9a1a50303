-- What the structs of the code hold, in the words of the other specs. Assumes nothing.
use Rattle.std.specs.Prelude.{Bool, true, false, List, ℕ, ℤ}
use Rattle.plan_insert.specs.State.{at, Flagged, ends_of, Chained, Links, links, Chains, marks, CanWalk, CanInsert, Standing}
use Rattle.plan_insert.specs.State as state
use Rattle.plan_insert.specs.declared.ground.Side.{Side}
use Rattle.plan_insert.specs.declared.ground.Side.TheVariants.{Dropped, Held}
use Rattle.plan_insert.specs.declared.Row.{Row}
use Rattle.plan_insert.specs.declared.chains.Chain.{Chain}
use Rattle.plan_insert.specs.declared.chains.Sides.{Sides}
use Rattle.plan_insert.specs.declared.marks.Marks.{Marks}
use Rattle.plan_insert.specs.declared.search.Search.{Search}

-- the flag of a side
abbrev pub stays : Side → Bool
stays Dropped = false
stays Held = true

abbrev pub links_of : Sides → Links
links_of c = links c.dropped.head c.dropped.next c.held.head c.held.next

abbrev pub marks_of : Marks → state.Marks
marks_of m = marks m.label m.by m.from m.list m.size

-- a chain holds those of the row's first t candidates that are of one side
abbrev pub OfSide : Row → ℕ → List Bool → Side → Chain → Type 0
OfSide row t kept side c = Chained row.cells (Flagged (stays side) t kept) (at (ends_of (stays side) row.lo row.hi)) c.head c.next

-- the chains hold the row's first t candidates, by their flags
abbrev pub Linked : Row → ℕ → List Bool → Sides → Type 0
Linked row t kept c = Chains row.cells t (at row.lo) (at row.hi) kept (links_of c)

-- candidate t of the row can be inserted, and the row as it stands after t candidates
abbrev pub Insertable : Row → ℕ → List Bool → List ℕ → List ℤ → Sides → Type 0
Insertable row t kept room dist c = CanInsert row.cells t row.lo row.hi row.cost kept room dist (links_of c)

abbrev pub Stands : (ℕ → ℕ) → ℕ → Row → ℕ → List Bool → List ℕ → List ℤ → Type 0
Stands limit count row t kept room dist = Standing limit count row.cells t row.lo row.hi row.cost kept room dist

-- the way that was found can be walked back from a to b
abbrev pub Walkable : List Bool → List ℕ → Sides → Search → ℕ → ℕ → Type 0
Walkable kept room c found a b = CanWalk kept room (links_of c) found.rank found.marks.by found.marks.from a b
