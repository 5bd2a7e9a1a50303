use native.Mathlib.Omega.{arith}
use Rattle.plan_channels.specs.Part.{listed_whole}
use Rattle.check_rules.specs.Sweep.{swept_start}
use Rattle.check_rules.proofs.laid.Laid.channels_apart.Goals as goal

pub apart_from-requires-clause-listed_by_node : goal.apart_from-requires-clause-listed_by_node
apart_from-requires-clause-listed_by_node c = listed_whole (omega arith) c.of-lists.ensures

pub loop-v-init : goal.loop-v-init
loop-v-init c = swept_start c.requires.1
