-- `check_plan::Claim::balanced` meets its contract: its two numbers are the book's earnings and the ceiling of its prices. Assumes nothing.
use native.Mathlib.Omega.{arith}
use Rattle.law_line.specs.HeldLine.{few_spans}
use Rattle.check_plan.specs.Balance.{can_earn, priced_line, same_balance}
use Rattle.check_plan.proofs.Claim.balanced.Goals as goal

pub price_list-list-requires : goal.price_list-list-requires
price_list-list-requires c = omega (arith, few_spans c.requires.held, c.requires.prices_enough)

pub ceiling_of-top-requires : goal.ceiling_of-top-requires
ceiling_of-top-requires c = priced_line c.requires c.price_list-list.ensures

pub earned-requires : goal.earned-requires
earned-requires c = rw c.args.self.now.columns.now.profit_even (can_earn c.requires)

pub returns : goal.returns
unfolding priced_line
returns c w =
    let listed = c.price_list-list.ensures in
    same_balance w listed (rw c.args.self.now.columns.now.profit_even at c.earned.ensures) (c.ceiling_of-top.ensures (priced_line w listed))
