-- A search and a walk look at neither the limits of a row nor how many candidates are still to come: what they find out on one row holds on
-- that row with any other limits. So the search goes over the bare row, and the planner has what it found on the row with its limits.
-- Assumes nothing.
use Rattle.std.specs.Prelude.{ℕ, Bool, refl}
use Rattle.std.proofs.Common.{arith}
use Rattle.law_row.specs.Row.{Row}
use Rattle.law_flow.specs.Balanced.{Proper, Deep}
use Rattle.law_flow.specs.Searching.{Ground}
use Rattle.law_flow.specs.Walking.{Open, trail_stays}
use Rattle.law_flow.specs.Ends.{Reached, Unreached}

-- the same cells and candidates, with these limits and this count
abbrev pub limited : (ℕ → ℕ) → ℕ → Row → Row
limited limit count row = record { cells = row.cells; limit = limit; count = count; lo = row.lo; hi = row.hi; profit = row.profit }

abbrev pub limited_ground : (ℕ → ℕ) → ℕ → Ground → Ground
limited_ground limit count g = record { row = limited limit count g.row; t = g.t; x = g.x; s = g.s; N = g.N }

pub proper_limited : {limit : ℕ → ℕ} {count t : ℕ} {row : Row} → Proper row t → Proper (limited limit count row) t
proper_limited p = record { some_cell = p.some_cell; in_row = p.in_row }

pub deep_limited : {limit : ℕ → ℕ} {count t : ℕ} {row : Row} {x : ℕ → Bool} {s N : ℕ → ℕ} → Deep row t x s N → Deep (limited limit count row) t x s N
deep_limited d = record { rises = d.rises; level = d.level; paid = d.paid; dropped = d.dropped }

open_limited : {limit : ℕ → ℕ} {count t e u v : ℕ} {row : Row} {x : ℕ → Bool} {s N : ℕ → ℕ} → Open row t x s N e u v → Open (limited limit count row) t x s N e u v
open_limited (Open.up i step l same) = Open.up i step l same
open_limited (Open.down i step l spare same) = Open.down i step l spare same
open_limited (Open.along l left first last same) = Open.along l left first last same
open_limited (Open.back l kept first last same) = Open.back l kept first last same

pub reached_limited : {limit : ℕ → ℕ} {count a b most : ℕ} {g : Ground} {d rank by from : ℕ → ℕ} → Reached g a b most d rank by from → Reached (limited_ground limit count g) a b most d rank by from
reached_limited r = record {
  root = r.root;
  shorter = r.shorter;
  deep = deep_limited r.deep;
  trail = trail_stays refl r.trail.ranked (omega arith) (λ w h. open_limited) r.trail;
}

pub unreached_limited : {limit : ℕ → ℕ} {count a b most : ℕ} {g : Ground} {d : ℕ → ℕ} → Unreached g a b most d → Unreached (limited_ground limit count g) a b most d
unreached_limited u = record { root = u.root; far = u.far; deep = deep_limited u.deep }
