-- What the arrays of the row planner hold. The flow's costs and distances are signed and never above 0: a candidate costs minus its profit,
-- an idle cell 0, and a node's distance is minus its depth. Assumes nothing.
use Rattle.std.specs.Prelude.{Bool, true, false, not, cond, List, ◌≡◌, ℕ, suc, ◌+◌, ◌*◌, ◌-◌, ◌≤◌, ◌<◌, get_or, length, set, ℤ, pos, ◌-ℤ◌}
pub use Rattle.base_sums.specs.At.{at, flag}
use Rattle.base_signed.specs.Parts.{up, dn}
use Rattle.law_row.specs.Row.{Row}
use Rattle.law_flow.specs.Balanced.{Proper, Deep, Balanced}
use Rattle.law_flow.specs.Searching.{Ground, Spread, Spreading}
use Rattle.law_flow.specs.SearchSteps.{Risen}
use Rattle.law_flow.specs.Walking.{Walking}
use Rattle.law_flow.specs.Ends.{Reached, Unreached}
use Rattle.law_flow.specs.Raise.{raised}

-- ---- arrays as functions

-- how far below 0 the i-th number lies
abbrev pub depth : List ℤ → ℕ → ℕ
depth zs i = dn (get_or zs i (pos 0))

-- how deep a node can come to lie: 1,000,000 for each of 127 cells without room and for each of 256 candidates
abbrev pub lowest : ℕ
lowest = 383000000

-- ---- the row and the ground of a search

abbrev pub row_in : (ℕ → ℕ) → ℕ → ℕ → List ℕ → List ℕ → List ℤ → Row
row_in limit count cells lo hi cost = record { cells = cells; limit = limit; count = count; lo = at lo; hi = at hi; profit = depth cost }

-- the search looks at neither limits nor how many candidates are still to come
abbrev pub bare : ℕ → List ℕ → List ℕ → List ℤ → Row
bare cells lo hi cost = row_in (λ j. 0) 0 cells lo hi cost

abbrev pub ground_in : ℕ → ℕ → List ℕ → List ℕ → List ℤ → List Bool → List ℕ → List ℤ → Ground
ground_in cells t lo hi cost kept room dist = record { row = bare cells lo hi cost; t = t; x = flag kept; s = at room; N = depth dist }

-- the numbers of a signed array up to place n are at most 0, and at least −bound
pub record Below (zs : List ℤ) (n bound : ℕ) : Type 0 where
  pub not_above : (i : ℕ) → i < n → up (get_or zs i (pos 0)) ≡ 0
  pub upto : (i : ℕ) → i < n → depth zs i ≤ bound

-- what holds after t candidates, as far as a search needs it
pub record Ready (cells t : ℕ) (lo hi : List ℕ) (cost : List ℤ) (kept : List Bool) (room : List ℕ) (dist : List ℤ) : Type 0 where
  pub cells_upto : cells ≤ 127
  pub t_upto : t ≤ 256
  pub proper : Proper (bare cells lo hi cost) t
  pub costs : Below cost t 1000000
  pub dists : Below dist (suc cells) lowest
  pub deep : Deep (bare cells lo hi cost) t (flag kept) (at room) (depth dist)

-- ---- chains of candidates

-- a candidate of the first t whose flag is `side`
abbrev pub Flagged : Bool → ℕ → List Bool → ℕ → Type 0
Flagged side t kept i = (i < t) × (flag kept i ≡ side)

-- an arc goes along a dropped candidate from its first node, and back along a kept one from its last: the nodes where the arcs of a side start
abbrev pub ends_of : Bool → List ℕ → List ℕ → List ℕ
ends_of side lo hi = cond side hi lo

-- what an arc costs: back along a kept candidate its cost counts the other way
abbrev pub cost_along : Bool → ℤ → ℤ
cost_along side z = cond side (pos 0 -ℤ z) z

-- p is 1 past the latest number below `bound` that is one of these, and 0 where none is
pub record LatestBelow (One : ℕ → Type 0) (bound p : ℕ) : Type 0 where
  pub upto : p ≤ bound
  pub one : (i : ℕ) → p ≡ suc i → One i
  pub last : (i : ℕ) → i < bound → One i → i < p

-- one of these, with its end at node v
abbrev pub EndsAt : (ℕ → Type 0) → (ℕ → ℕ) → ℕ → ℕ → Type 0
EndsAt In ends v i = In i × (ends i ≡ v)

-- Some candidates by one of their ends, latest first: head v is 1 past the latest that has its end at node v, next j is 1 past the latest before j
-- with the same end; 0 is none.
pub record Chained (cells : ℕ) (In : ℕ → Type 0) (ends : ℕ → ℕ) (head next : List ℕ) : Type 0 where
  pub few : (i : ℕ) → In i → i < 256
  pub heads : (v : ℕ) → v ≤ cells → LatestBelow (EndsAt In ends v) 256 (at head v)
  pub nexts : (j : ℕ) → In j → LatestBelow (EndsAt In ends (ends j)) j (at next j)

-- the arrays of the chains by first node, and of those by last
pub record Links : Type 0 where
  pub head_lo : List ℕ
  pub next_lo : List ℕ
  pub head_hi : List ℕ
  pub next_hi : List ℕ

abbrev pub links : List ℕ → List ℕ → List ℕ → List ℕ → Links
links head_lo next_lo head_hi next_hi = record { head_lo = head_lo; next_lo = next_lo; head_hi = head_hi; next_hi = next_hi }

-- of the first t candidates the dropped ones by their first node, where arcs along them start, and the kept ones by their last, where arcs back start
pub record Chains (cells t : ℕ) (lo hi : ℕ → ℕ) (kept : List Bool) (ls : Links) : Type 0 where
  pub dropped : Chained cells (Flagged false t kept) lo ls.head_lo ls.next_lo
  pub held : Chained cells (Flagged true t kept) hi ls.head_hi ls.next_hi

-- arc e of a walk, from u to v, belongs to a candidate, which can be turned round
pub record CanTurn (row : Row) (t : ℕ) (kept : List Bool) (ls : Links) (e u v : ℕ) : Type 0 where
  pub cells_upto : row.cells ≤ 127
  pub t_upto : t ≤ 256
  pub candidate : e < t
  pub near_in : u ≤ row.cells
  pub far_in : v ≤ row.cells
  pub along : flag kept e ≡ false → (u ≡ row.lo e) × (v ≡ row.hi e)
  pub back : flag kept e ≡ true → (u ≡ row.hi e) × (v ≡ row.lo e)
  pub chains : Chains row.cells t row.lo row.hi kept ls

-- ---- what the functions promise

-- what a search has written so far: each node's label, with its arc and its origin, and the list, of `size` nodes
pub record Marks : Type 0 where
  pub label : List ℕ
  pub by : List ℕ
  pub from : List ℕ
  pub list : List ℕ
  pub size : ℕ

abbrev pub marks : List ℕ → List ℕ → List ℕ → List ℕ → ℕ → Marks
marks label by from list size = record { label = label; by = by; from = from; list = list; size = size }

-- the list has, each once, the open nodes (rank 0) with a label below most
pub record Listed (cells most : ℕ) (d rank : ℕ → ℕ) (list : List ℕ) (size : ℕ) : Type 0 where
  pub small : cells ≤ 127
  pub long : length list ≡ 128
  pub node : (i : ℕ) → i < size → at list i ≤ cells
  pub waits : (i : ℕ) → i < size → rank (at list i) ≡ 0
  pub near : (i : ℕ) → i < size → d (at list i) < most
  pub once : (i j : ℕ) → i < size → j < size → at list i ≡ at list j → i ≡ j
  pub all : (v : ℕ) → v ≤ cells → rank v ≡ 0 → d v < most → (i : ℕ) × (i < size) × (at list i ≡ v)

-- one of a list of nodes can be chosen: there is one, and no label is below `floor`
pub record CanChoose (label list : List ℕ) (size floor : ℕ) : Type 0 where
  pub some : 0 < size
  pub upto : size ≤ 128
  pub node : (i : ℕ) → i < size → at list i ≤ 127
  pub above : (i : ℕ) → i < size → floor ≤ at label (at list i)

-- place r of the list has a node with the least label
pub record Chosen (label list : List ℕ) (size r : ℕ) : Type 0 where
  pub inside : r < size
  pub least : (i : ℕ) → i < size → at label (at list r) ≤ at label (at list i)

-- v is a place of each array, and is given the shorter label `way`, with its arc and its origin, or all stays; a first label puts v on the list
pub record Relaxation (most : ℕ) (m m' : Marks) (v way u arc : ℕ) : Type 0 where
  pub label_in : v < length m.label
  pub arc_in : v < length m.by
  pub origin_in : v < length m.from
  pub stays : at m.label v ≤ way → m' ≡ m
  pub label_lower : way < at m.label v → m'.label ≡ set m.label v way
  pub by_lower : way < at m.label v → m'.by ≡ set m.by v arc
  pub from_lower : way < at m.label v → m'.from ≡ set m.from v u
  pub again : way < at m.label v → at m.label v < most → (m'.list ≡ m.list) × (m'.size ≡ m.size)
  pub first : way < at m.label v → most ≤ at m.label v → m.size < 128 → (m'.list ≡ set m.list m.size v) × (m'.size ≡ suc m.size)

-- ---- how far a node has spread

abbrev pub Nothing : Ground → ℕ → (ℕ → ℕ) → Type 0
Nothing g u d = Unit {0}

abbrev pub UpDone : Ground → ℕ → (ℕ → ℕ) → Type 0
UpDone g u d = Risen g d u

abbrev pub CellsDone : Ground → ℕ → (ℕ → ℕ) → Type 0
CellsDone g u d = Spread g d u g.t g.t

-- the candidates of one side, from number i on: the dropped ones come before the kept ones
abbrev pub DoneFrom : Bool → ℕ → Ground → ℕ → (ℕ → ℕ) → Type 0
DoneFrom side i g u d = Spread g d u (cond side 0 i) (cond side i g.t)

abbrev pub NoneDone : Bool → Ground → ℕ → (ℕ → ℕ) → Type 0
NoneDone side g = DoneFrom side g.t g

abbrev pub AllDone : Ground → ℕ → (ℕ → ℕ) → Type 0
AllDone g u d = Spread g d u 0 0

-- a search in which u is spreading, with its list
abbrev pub Underway : Ground → ℕ → ℕ → (ℕ → ℕ) → ℕ → ℕ → ((ℕ → ℕ) → Type 0) → Marks → Type 0
Underway g b most rank clock u Part m =
    Spreading g b most (at m.label) rank (at m.by) (at m.from) clock u Part × Listed g.row.cells most (at m.label) rank m.list m.size

-- in whatever search u is spreading, it gets from one stage to the next; its own label grows no longer
pub record Spreads (g : Ground) (most : ℕ) (Now Then : Ground → ℕ → (ℕ → ℕ) → Type 0) (u : ℕ) (m m' : Marks) : Type 0 where
  pub on : (b : ℕ) (rank : ℕ → ℕ) (clock : ℕ) → Underway g b most rank clock u (Now g u) m → Underway g b most rank clock u (Then g u) m'
  pub no_longer : at m'.label u ≤ at m.label u

-- an arc of this cost, from a node at distance `near` to one at distance `far`, cannot lower the far end
pub record Lacks (cost near far : ℤ) : Type 0 where
  pub cost_high : up cost ≤ 1000000
  pub cost_low : dn cost ≤ 1000000
  pub near_not_above : up near ≡ 0
  pub near_low : dn near ≤ lowest
  pub far_not_above : up far ≡ 0
  pub far_low : dn far ≤ lowest
  pub not_below : dn near + dn cost ≤ dn far + up cost

-- an arc of this cost from u to v is relaxed, with the length that it lacks
pub record Tried (most : ℕ) (cost near far : ℤ) (m m' : Marks) (u v arc : ℕ) : Type 0 where
  pub len : ℕ
  pub long : len + (dn near + dn cost) ≡ dn far + up cost
  pub relaxation : Relaxation most m m' v (at m.label u + len) u arc

-- a search begins: every node open, b at 0 and the others at most
pub record Fresh (cells b most : ℕ) (label rank : List ℕ) : Type 0 where
  pub root : at label b ≡ 0
  pub others : (v : ℕ) → v ≤ cells → (v ≡ b → ⊥) → at label v ≡ most
  pub still : (v : ℕ) → v ≤ cells → at rank v ≡ 0

-- what a search comes to
pub record Searched (g : Ground) (a b most : ℕ) (label rank by from : List ℕ) (found : Bool) : Type 0 where
  pub reached : found ≡ true → Reached g a b most (at label) (at rank) (at by) (at from)
  pub unreached : found ≡ false → Unreached g a b most (at label)

-- every node up to the last is deepened by what its label lacks to `to`
pub record Deepened (cells to : ℕ) (label : List ℕ) (dist dist' : List ℤ) : Type 0 where
  pub not_above : (v : ℕ) → v ≤ cells → up (get_or dist' v (pos 0)) ≡ 0
  pub deeper : (v : ℕ) → v ≤ cells → depth dist' v ≡ raised to (depth dist) (at label) v

-- a walk back that can be made
pub record CanWalk (kept : List Bool) (room : List ℕ) (ls : Links) (rank by from : List ℕ) (a b : ℕ) : Type 0 where
  pub row : Row
  pub t : ℕ
  pub N : ℕ → ℕ
  pub cells_upto : row.cells ≤ 127
  pub t_upto : t ≤ 256
  pub proper : Proper row t
  pub limits : (j : ℕ) → j < row.cells → row.limit j ≤ 1000
  pub walking : Walking row t (flag kept) (at room) N b (at rank) (at by) (at from) a
  pub chains : Chains row.cells t row.lo row.hi kept ls

-- one arc of a walk: its number, and the room that a cell has to give or to take
pub record CanFlip (kept : List Bool) (room : List ℕ) (ls : Links) (e u v : ℕ) : Type 0 where
  pub arc : e ≤ 257
  pub up_cell : e ≡ 256 → u < 128
  pub up_room : e ≡ 256 → at room u ≤ 2000
  pub down_cell : e ≡ 257 → v < 128
  pub down_room : e ≡ 257 → 0 < at room v
  pub turn : e < 256 → (row : Row) × (t : ℕ) × CanTurn row t kept ls e u v

-- candidate e is turned round, and goes from one chain to the other
pub record TurnedRound (kept : List Bool) (ls : Links) (kept' : List Bool) (ls' : Links) (e u v : ℕ) : Type 0 where
  pub flags : kept' ≡ set kept e (not (flag kept e))
  pub chains : (row : Row) (t : ℕ) → CanTurn row t kept ls e u v → Chains row.cells t row.lo row.hi kept' ls'

pub record Flipped (kept : List Bool) (room : List ℕ) (ls : Links) (kept' : List Bool) (room' : List ℕ) (ls' : Links) (e u v : ℕ) : Type 0 where
  pub up_kept : e ≡ 256 → kept' ≡ kept
  pub up_room : e ≡ 256 → room' ≡ set room u (at room u + 1)
  pub up_links : e ≡ 256 → ls' ≡ ls
  pub down_kept : e ≡ 257 → kept' ≡ kept
  pub down_room : e ≡ 257 → room' ≡ set room v (at room v - 1)
  pub down_links : e ≡ 257 → ls' ≡ ls
  pub turn_room : e < 256 → room' ≡ room
  pub turned : e < 256 → TurnedRound kept ls kept' ls' e u v

-- the numbers that a candidate's gain is made of
pub record Gains (cost near far : ℤ) : Type 0 where
  pub cost_not_above : up cost ≡ 0
  pub cost_low : dn cost ≤ 1000000
  pub near_not_above : up near ≡ 0
  pub near_low : dn near ≤ lowest
  pub far_not_above : up far ≡ 0
  pub far_low : dn far ≤ lowest

-- a cost: from −1,000,000 to 0
abbrev pub Fall : ℤ → Type 0
Fall fall = (up fall ≡ 0) × (dn fall ≤ 1000000)

-- the distance past a cell: that of the node before it, and lower only where the cell has no room
pub record PastCell (near : ℤ) (room : ℕ) (far : ℤ) : Type 0 where
  pub not_above : up far ≡ 0
  pub rises : dn near ≤ dn far
  pub small : dn far ≤ dn near + 1000000
  pub level : 0 < room → dn far ≡ dn near

-- the distances before any candidate: the row steps down at cells without room only
pub record Stepped (cells : ℕ) (room : List ℕ) (dist : List ℤ) : Type 0 where
  pub not_above : (v : ℕ) → v ≤ cells → up (get_or dist v (pos 0)) ≡ 0
  pub upto : (v : ℕ) → v ≤ cells → depth dist v ≤ 1000000 * v
  pub rises : (j : ℕ) → j < cells → depth dist j ≤ depth dist (suc j)
  pub level : (j : ℕ) → j < cells → 0 < at room j → depth dist (suc j) ≤ depth dist j

-- the planner's state after t candidates
pub record Standing (limit : ℕ → ℕ) (count cells t : ℕ) (lo hi : List ℕ) (cost : List ℤ) (kept : List Bool) (room : List ℕ) (dist : List ℤ) : Type 0 where
  pub balanced : Balanced (row_in limit count cells lo hi cost) t (flag kept) (at room) (depth dist)
  pub dists : Below dist (suc cells) (1000000 * (cells + t))

-- a row that can be planned: at most 127 cells and 256 candidates, each a real interval, with a cost from −1,000,000 to 0
pub record CanPlan (cells count : ℕ) (lo hi : List ℕ) (cost : List ℤ) (room : List ℕ) : Type 0 where
  pub cells_upto : cells ≤ 127
  pub count_upto : count ≤ 256
  pub proper : Proper (bare cells lo hi cost) count
  pub costs : Below cost count 1000000
  pub limits : (j : ℕ) → j < cells → at room j ≤ 1000

-- candidate t can be inserted: the row as it is after t candidates, with its limits
pub record CanInsert (cells t : ℕ) (lo hi : List ℕ) (cost : List ℤ) (kept : List Bool) (room : List ℕ) (dist : List ℤ) (ls : Links) : Type 0 where
  pub cells_upto : cells ≤ 127
  pub t_upto : t < 256
  pub proper : Proper (bare cells lo hi cost) (suc t)
  pub costs : Below cost (suc t) 1000000
  pub limit : ℕ → ℕ
  pub count : ℕ
  pub limits : (j : ℕ) → j < cells → limit j ≤ 1000
  pub standing : Standing limit count cells t lo hi cost kept room dist
  pub chains : Chains cells t (at lo) (at hi) kept ls
