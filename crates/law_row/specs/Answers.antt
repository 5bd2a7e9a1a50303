-- No kept set within the limits is worth more than a tight one: the ceiling of the tight one's prices bounds them all, and it is the
-- tight one's worth. Assumes nothing.
use Rattle.std.specs.Prelude.{Bool, ℕ, ◌≤◌}
use Rattle.std.proofs.Common.{arith}
use Rattle.law_row.specs.Row.{Row, worth, WithinLimits, Tight}
use Rattle.law_row.specs.Duality.{weak, tight}

pub none_worth_more : (row : Row) (x x' : ℕ → Bool) (y : ℕ → ℕ) → Tight row x y → WithinLimits row x' → worth row x' ≤ worth row x
none_worth_more row x x' y t w = omega (arith, weak row x' y w, tight row x y t)
