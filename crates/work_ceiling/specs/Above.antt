-- What the ceiling is good for without a plan at hand: whatever the prices, a line's best earnings are not above their ceiling. Assumes nothing.
use Rattle.std.specs.Prelude.{◌≤◌}
use Rattle.std.proofs.Common.{arith}
use Rattle.paper_book.specs.Book.{Book}
use Rattle.paper_rules.specs.Best.{best}
use Rattle.paper_rules.specs.Prices.{Prices, ceiling}
use Rattle.law_line.specs.Line.{Line}
use Rattle.law_line.specs.Best.{attained}
use Rattle.law_line.specs.Ceiling.{no_plan_above}

pub best_upto_ceiling : {book : Book} (on : Line book) (prices : Prices) → best book ≤ ceiling book prices
best_upto_ceiling on prices = let (plan, fair, _, earns) = attained on in omega (arith, no_plan_above on plan prices fair, earns)
