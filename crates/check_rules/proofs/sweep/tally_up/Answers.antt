use native.Mathlib.Omega.{arith}
use Rattle.check_rules.specs.Loads.{tally_upto, tallied_more}
use Rattle.check_rules.proofs.sweep.tally_up.Goals as goal

pub overflow_add-tally : goal.overflow_add-tally
overflow_add-tally c =
    let place = c.requires.numbers_below.below c.loop-v.v-index (omega arith) in
    omega (arith, tally_upto c.loop-v.invariant _ place, c.requires.numbers_below.few)

pub loop-v-preserved : goal.loop-v-preserved
loop-v-preserved c = tallied_more c.loop-v.invariant (c.requires.numbers_below.below c.loop-v.v-index (omega arith))
