-- What holds of the first n candidates, or of the first n numbers of an array, holds of fewer; and a bound may be wider. Assumes nothing.
use Rattle.std.specs.Prelude.{List, ℕ, ◌≤◌, ℤ}
use Rattle.std.proofs.Common.{le_trans}
use Rattle.law_row.specs.Row.{Row}
use Rattle.law_flow.specs.Balanced.{Proper}
use Rattle.plan_insert.specs.State.{Below}

pub proper_fewer : {row : Row} {m n : ℕ} → m ≤ n → Proper row n → Proper row m
proper_fewer h p = record { some_cell = λ i l. p.some_cell i (le_trans l h); in_row = λ i l. p.in_row i (le_trans l h) }

pub below_fewer : {zs : List ℤ} {m n bound bound' : ℕ} → m ≤ n → bound ≤ bound' → Below zs n bound → Below zs m bound'
below_fewer h wider b = record { not_above = λ i l. b.not_above i (le_trans l h); upto = λ i l. le_trans (b.upto i (le_trans l h)) wider }
