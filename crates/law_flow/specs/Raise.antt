-- After a search every node nearer than D is deepened by what it lacks to D, and still no arc deepens a node: along an arc from a settled
-- node the label grows by at most the arc's length, and a node still open lacks nothing. The arcs by which the labels came become tight, so
-- that the way back can be walked. Assumes nothing.
use Rattle.std.specs.Prelude.{◌≡◌, refl, ℕ, suc, ◌+◌, ◌-◌, ◌≤◌, ◌<◌}
use Rattle.std.proofs.Common.{⊎_elim, eq-zero-or-pos, arith}
use Rattle.law_row.specs.Meets.{first_in}
use Rattle.law_flow.specs.Balanced.{Proper, Deep}
use Rattle.law_flow.specs.Searching.{Ground, DeepAt, Came, Spread, Searching}
use Rattle.law_flow.specs.Walking.{Open}

-- node v, deepened by what its label lacks to D
unfoldable pub raised : ℕ → (ℕ → ℕ) → (ℕ → ℕ) → ℕ → ℕ
raised D N d v = N v + (D - d v)

pub raised_upto : {cells D B c v : ℕ} {N : ℕ → ℕ} (d : ℕ → ℕ) → ((w : ℕ) → w ≤ cells → N w ≤ B) → D ≤ c → v ≤ cells → raised D N d v ≤ B + c
unfolding raised
raised_upto {v} d deepest l h = omega (arith, deepest v h)

-- ---- the depths and the arcs after a search

pub raised_deep : {g : Ground} {b most D clock : ℕ} {d rank by from : ℕ → ℕ} → DeepAt g → Proper g.row g.t →
    Searching g b most d rank by from clock → ((w : ℕ) → w ≤ g.row.cells → rank w ≡ 0 → D ≤ d w) → Deep g.row g.t g.x g.s (raised D g.N d)
unfolding raised
raised_deep {g} {D} {d} {rank} deep proper searching stop = record {
  rises = λ j l. arc j (suc j) (omega arith) (deep.rises j l) (λ s. s.up l);
  level = λ j l spare. arc (suc j) j l (deep.level j l spare) (λ s. s.down j refl l spare);
  paid = λ i l kept. omega (arith, arc (g.row.hi i) (g.row.lo i) (proper.in_row i l) (deep.paid i l kept) (λ s. s.back i (omega arith) l kept refl));
  dropped = λ i l left. omega (arith, arc (g.row.lo i) (g.row.hi i) (first_in proper i l) (deep.dropped i l left) (λ s. s.along i (omega arith) l left refl));
}
  where
    -- one arc, of length m − n
    arc : (u v : ℕ) {n m : ℕ} → u ≤ g.row.cells → n ≤ m → (Spread g d u 0 0 → d v + n ≤ d u + m) → n + (D - d u) ≤ m + (D - d v)
    arc u v h long way = ⊎_elim (λ (q : rank u ≡ 0). omega (arith, stop u h q)) (λ q. omega (arith, way (searching.spread u h q))) (eq-zero-or-pos (rank u))

-- the arc's length is not below 0, so that the label at its near end is not past D either
came_open : {g : Ground} {D e u v : ℕ} {d : ℕ → ℕ} → DeepAt g → d v ≤ D → Came g d e u v → Open g.row g.t g.x g.s (raised D g.N d) e u v
unfolding raised
came_open {g} {u} deep h (Came.up i step l same) = Open.up i step l (omega (arith, rw (← step) at (deep.rises u (omega arith))))
came_open {g} {v} deep h (Came.down i step l spare same) = Open.down i step l spare (omega (arith, rw (← step) at (deep.level v l spare)))
came_open {g} {e} deep h (Came.along l left first last same) = Open.along l left first last (omega (arith, rw (← first, ← last) at (deep.dropped e l left)))
came_open {g} {e} deep h (Came.back l kept first last same) = Open.back l kept first last (omega (arith, rw (← first, ← last) at (deep.paid e l kept)))

pub raised_open : {g : Ground} {b most D clock v : ℕ} {d rank by from : ℕ → ℕ} → DeepAt g → Searching g b most d rank by from clock →
    v ≤ g.row.cells → d v < most → (v ≡ b → ⊥) → d v ≤ D → Open g.row g.t g.x g.s (raised D g.N d) (by v) (from v) v
raised_open {v} deep searching l shorter apart near = came_open deep near (searching.labels.came v l shorter apart)
