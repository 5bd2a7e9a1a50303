use native.Mathlib.Omega.{arith}
use Rattle.base_sums.specs.Each.{of_yes}
use Rattle.check_rules.specs.Loads.{tallied_none, tallied_part, tally_upto, load_turns, loaded_more, load_above}
use Rattle.check_rules.proofs.laid.Laid.within_limits.Goals as goal

pub tally_up-requires-clause-tallied : goal.tally_up-requires-clause-tallied
tally_up-requires-clause-tallied c = tallied_none

pub tally_up-requires-2-clause-tallied : goal.tally_up-requires-2-clause-tallied
tally_up-requires-2-clause-tallied c = tallied_none

pub overflow_add-load : goal.overflow_add-load
overflow_add-load c =
    omega (arith, c.loop-s.invariant.few, tally_upto (tallied_part (omega arith) c.tally_up.ensures) c.loop-s.s (omega arith), c.requires.1.in_line.few)

pub overflow_sub-load : goal.overflow_sub-load
overflow_sub-load c = omega (arith, load_turns c.requires.1.upward (tallied_part (omega arith) c.tally_up.ensures) (tallied_part (omega arith) c.tally_up-2.ensures) (omega arith) c.loop-s.invariant)

pub returns-then-limits-s : goal.returns-then-limits-s
returns-then-limits-s c = record {
  sure = λ e. absurd (of_yes e);
  whole = λ within. absurd (load_above c.requires.1.upward (tallied_part (omega arith) c.tally_up.ensures) (tallied_part (omega arith) c.tally_up-2.ensures) (omega arith) c.loop-s.invariant (omega arith) (omega arith) within);
}

pub loop-s-preserved : goal.loop-s-preserved
loop-s-preserved c =
    loaded_more c.requires.1.upward (tallied_part (omega arith) c.tally_up.ensures) (tallied_part (omega arith) c.tally_up-2.ensures) (omega arith) c.loop-s.invariant (omega arith)
