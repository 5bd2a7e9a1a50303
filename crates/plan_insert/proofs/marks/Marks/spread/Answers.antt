-- `plan_insert::marks::Marks::spread` meets its contract. Its four calls take u through its stages one after another, and none lengthens the label of u, which
-- each of them asks to be small. Assumes nothing.
use Rattle.plan_insert.specs.Stages.{spreads_on}
use Rattle.plan_insert.proofs.marks.Marks.spread.Goals as goal

pub returns : goal.returns
returns c =
    spreads_on (spreads_on (spreads_on c.rise.ensures c.fall.ensures) c.follow.ensures) c.follow-2.ensures
