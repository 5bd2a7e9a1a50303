-- `check_plan::Claim::weigh` meets its contract: a plan that breaks the rules is a no, and for any other the sums decide. Assumes nothing.
use native.Mathlib.Omega.{arith}
use Rattle.paper_rules.specs.Prices.{verdict}
use Rattle.law_line.specs.HeldLine.{few_spans}
use Rattle.check_rules.specs.Drawn.{drawn}
use Rattle.check_plan.proofs.Claim.weigh.Goals as goal

pub lawful-requires-clause-spans_bound : goal.lawful-requires-clause-spans_bound
lawful-requires-clause-spans_bound c = omega (arith, few_spans c.requires.held, c.requires.entries_enough)

pub returns-then-lawful : goal.returns-then-lawful
unfolding verdict
returns-then-lawful c w k = rw (← c.lawful.ensures w.book (drawn w.held) k, c.if-lawful.true) (c.balanced.ensures w)

pub returns-else-lawful : goal.returns-else-lawful
unfolding verdict
returns-else-lawful c w k = rw (← c.lawful.ensures w.book (drawn w.held) k, c.if-lawful.false)
