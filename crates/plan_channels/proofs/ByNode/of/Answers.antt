use Rattle.plan_channels.specs.Lists.{listed_none}
use Rattle.plan_channels.proofs.ByNode.of.Goals as goal

pub loop-e-init : goal.loop-e-init
loop-e-init c = listed_none c.requires.numbers_below.few
