-- What is kept true of the depths looks at the row's own nodes only, the ends of its candidates among them. So depths that agree there serve
-- as well: the array holds no more than the row's nodes. Assumes nothing.
use Rattle.std.specs.Prelude.{Bool, ◌≡◌, ℕ, suc, ◌≤◌, ◌<◌}
use Rattle.std.proofs.Common.{arith}
use Rattle.law_row.specs.Row.{Row}
use Rattle.law_row.specs.Meets.{first_in}
use Rattle.law_flow.specs.Balanced.{Proper, Deep, Balanced}

module _ {row : Row} {t : ℕ} {x : ℕ → Bool} {s N N' : ℕ → ℕ} (proper : Proper row t) (same : (v : ℕ) → v ≤ row.cells → N' v ≡ N v) where
  deep_same : Deep row t x s N → Deep row t x s N'
  deep_same d = record {
    rises = λ j l. omega (arith, same j (omega arith), same (suc j) l, d.rises j l);
    level = λ j l spare. omega (arith, same j (omega arith), same (suc j) l, d.level j l spare);
    paid = λ i l kept. omega (arith, first i l, last i l, d.paid i l kept);
    dropped = λ i l left. omega (arith, first i l, last i l, d.dropped i l left);
  }
    where
      first : (i : ℕ) → i < t → N' (row.lo i) ≡ N (row.lo i)
      first i l = same (row.lo i) (first_in proper i l)

      last : (i : ℕ) → i < t → N' (row.hi i) ≡ N (row.hi i)
      last i l = same (row.hi i) (proper.in_row i l)

  pub balanced_same : Balanced row t x s N → Balanced row t x s N'
  balanced_same b = record { room = b.room; deep = deep_same b.deep }
