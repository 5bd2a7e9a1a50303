-- `plan_channels::lowest_past` meets its contract: the first number from 1 to k at which the latest connection ends no later than the node is the lowest free
-- channel. Assumes nothing.
use Rattle.std.proofs.Common.{rules, tests, ◌≤◌, ◌<◌}
use Rattle.std.proofs.lemmas.Iterator.{first_from_Range}
use Rattle.plan_channels.specs.HandOut.{at}
use Rattle.plan_channels.specs.Latest.{lowest_found}
use Rattle.plan_channels.proofs.lowest_past.Goals as goal

pub returns : goal.returns
returns c =
    let ends = c.args.ends.now in
    lowest_found _ _ _ _
    (first_from_Range _ _ _ _ (λ d. at ends d ≤ c.args.from) (λ d. c.args.from < at ends d) c.find.ensures.ran
    (λ d f called. search (rules, tests))
    (λ d f called. (search rules, search (rules, tests))))
