use native.Mathlib.Omega.{arith}
use Rattle.base_sums.specs.Vacant.{vacant_set}
use Rattle.plan_line.specs.Entering.{entering_left, entering_up, entering_down}
use Rattle.plan_line.proofs.entries.enter.Goals as goal
use Rattle.plan_line.proofs.entries.enter.Goals.{then-kept-i+then-a-i, then-kept-i+else-a-i, else-kept-i}

pub loop-i-preserved : goal.loop-i-preserved
loop-i-preserved c =
    let l = c.loop-i in
    elim c.if-kept-i.branch [
      | then-kept-i+then-a-i w ↦
          rw w.entries-is
          (entering_up l.invariant.0 (omega arith) w.if-kept-i.true w.if-a-i.true, λ new. vacant_set (l.invariant.1 new) l.i _ (omega arith))
      | then-kept-i+else-a-i w ↦
          rw w.entries-is
          (entering_down l.invariant.0 (omega arith) w.if-kept-i.true w.if-a-i.false, λ new. vacant_set (l.invariant.1 new) l.i _ (omega arith))
      | else-kept-i w ↦ rw w.entries-is (entering_left l.invariant.0 (omega arith) w.if-kept-i.false, λ new. vacant_set (l.invariant.1 new) l.i _ (omega arith))
    ]
