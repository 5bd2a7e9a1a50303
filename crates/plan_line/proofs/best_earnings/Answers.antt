-- What solves the row is a best set, so its profits are the best earnings of whatever line the columns hold; and the prices are cut down. Assumes nothing.
use mathlib.Core.Path.{◌∙◌}
use native.Mathlib.Omega.{arith}
use Rattle.law_row.specs.Clamp.{clamp}
use Rattle.plan_row.specs.Placing.{placed_low}
use Rattle.plan_line.specs.Promised.{can_solve, falling, sum_best}
use Rattle.plan_line.proofs.best_earnings.Goals as goal

pub solve-requires : goal.solve-requires
solve-requires c = can_solve c.requires.line_columns

pub price-requires : goal.price-requires
price-requires c = record { falling = falling c.requires.line_columns c.solve.ensures; places = c.requires.one_to_one }

pub returns : goal.returns
unfolding clamp
returns c = record { value = λ w. (rw c.args.line.now.profit_even at c.sum_kept.ensures.earned) ∙ sum_best w c.solve.ensures; low_prices = placed_low (λ j. omega arith) c.price.ensures }
