use native.Mathlib.Omega.{arith}
use Rattle.base_sums.specs.Turns.{running_none}
use Rattle.paper_book.specs.Columns.{at}
use Rattle.plan_line.specs.Totals.{kept_more, left_more}
use Rattle.plan_line.proofs.entries.sum_kept.Goals as goal
use Rattle.plan_line.proofs.entries.sum_kept.Goals.{then-kept-i, else-kept-i}

pub loop-i-init : goal.loop-i-init
loop-i-init c = (running_none, running_none)

pub loop-i-preserved : goal.loop-i-preserved
loop-i-preserved c =
    let l = c.loop-i in
    let kept = c.args.kept.now in
    let profit = at c.args.profit.now in
    elim c.if-kept-i.branch [
      | then-kept-i w ↦
          rw (w.earned-is, w.number-is)
          (kept_more kept profit l.invariant.0 w.if-kept-i.true (c.requires.upto l.i (omega arith)), kept_more kept (λ i. 1) l.invariant.1 w.if-kept-i.true (omega arith))
      | else-kept-i w ↦
          rw (w.earned-is, w.number-is) (left_more kept profit l.invariant.0 w.if-kept-i.false, left_more kept (λ i. 1) l.invariant.1 w.if-kept-i.false)
    ]
