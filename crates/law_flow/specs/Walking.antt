-- The walk back from a to b along the arcs by which labels came, flipping each: a dropped candidate is kept and a kept one dropped, a cell
-- passed upwards gains room and one passed downwards loses it. At node v the loads are right but for the cells between v and b. Assumes nothing.
use Rattle.std.specs.Prelude.{Bool, true, false, ◌≡◌, ℕ, suc, ◌+◌, ◌≤◌, ◌<◌}
use Rattle.std.proofs.Common.{arith}
use Rattle.base_sums.specs.Between.{between}
use Rattle.law_row.specs.Row.{Row}
use Rattle.law_flow.specs.Balanced.{Deep, load_to}

-- arc e from u to v is open in the state (x, s), and tight at the depths N
pub data Open (row : Row) (t : ℕ) (x : ℕ → Bool) (s N : ℕ → ℕ) (e u v : ℕ) : Type 0 where
  up : e ≡ 256 → v ≡ suc u → v ≤ row.cells → N v ≡ N u → Open row t x s N e u v
  down : e ≡ 257 → u ≡ suc v → v < row.cells → 0 < s v → N u ≡ N v → Open row t x s N e u v
  along : e < t → x e ≡ false → u ≡ row.lo e → v ≡ row.hi e → N v ≡ N u + row.profit e → Open row t x s N e u v
  back : e < t → x e ≡ true → u ≡ row.hi e → v ≡ row.lo e → N u ≡ N v + row.profit e → Open row t x s N e u v

-- one step of the way back: node w was reached by an open arc, from a node that was ranked before it
pub record StepBack (row : Row) (t : ℕ) (x : ℕ → Bool) (s N : ℕ → ℕ) (rank by from : ℕ → ℕ) (w : ℕ) : Type 0 where
  pub arc : Open row t x s N (by w) (from w) w
  pub from_in : from w ≤ row.cells
  pub from_ranked : 0 < rank (from w)
  pub falls : rank (from w) < rank w

-- the way back from v to b: v and every node ranked before it, but for b, has its step
pub record Trail (row : Row) (t : ℕ) (x : ℕ → Bool) (s N : ℕ → ℕ) (b : ℕ) (rank by from : ℕ → ℕ) (v : ℕ) : Type 0 where
  pub ranked : 0 < rank v
  pub step : (w : ℕ) → w ≤ row.cells → 0 < rank w → rank w ≤ rank v → (w ≡ b → ⊥) → StepBack row t x s N rank by from w

-- where its arcs stay open the way back is still there, also from a node v' ranked before v
pub trail_stays :
    {row row' : Row} {t t' : ℕ} {x x' : ℕ → Bool} {s s' N : ℕ → ℕ} {b : ℕ} {rank by from : ℕ → ℕ} {v v' : ℕ}
    → row'.cells ≡ row.cells
    → 0 < rank v'
    → rank v' ≤ rank v
    → ((w : ℕ) → rank w ≤ rank v' → Open row t x s N (by w) (from w) w → Open row' t' x' s' N (by w) (from w) w)
    → Trail row t x s N b rank by from v
    → Trail row' t' x' s' N b rank by from v'
trail_stays same ranked upto stays trail = record {
  ranked = ranked;
  step = λ w l r h n. let back = trail.step w (omega arith) r (omega arith) n in
      record { arc = stays w h back.arc; from_in = omega (arith, back.from_in); from_ranked = back.from_ranked; falls = back.falls };
}

-- at node v of the walk to b; t counts the candidates, the new one among them
pub record Walking (row : Row) (t : ℕ) (x : ℕ → Bool) (s N : ℕ → ℕ) (b : ℕ) (rank by from : ℕ → ℕ) (v : ℕ) : Type 0 where
  pub node : v ≤ row.cells
  pub room : (j : ℕ) → j < row.cells → s j + load_to row t x j + between b v j ≡ row.limit j + between v b j
  pub deep : Deep row t x s N
  pub trail : Trail row t x s N b rank by from v
