use mathlib.Core.Path.{◌≡◌, sym, ◌∙◌}
use native.Mathlib.Omega.{arith}
use borrow.Author.Count.{below_more}
use Rattle.std.proofs.Common.{length}
use Rattle.paper_rules.specs.Plans as Plans
use Rattle.paper_rules.specs.Plans.{kept}
use Rattle.check_rules.specs.Entry.{lays_wrong, lays_all, laying_more}
use Rattle.check_rules.proofs.laid.Laid.lay.Goals as goal

pub returns-then-not-formed : goal.returns-then-not-formed
returns-then-not-formed c =
    lays_wrong c.loop-i.i (omega arith) (sym (rw c.entry_at-entry.ensures at c.formed.ensures) ∙ c.if-not-formed.true)

pub loop-i-preserved : goal.loop-i-preserved
unfolding kept Plans.channel
loop-i-preserved c =
    let l = c.loop-i in (
      below_more _ _ l.invariant.0 (sym (rw c.entry_at-entry.ensures at c.formed.ensures) ∙ c.if-not-formed.false),
      laying_more
          _
          _
          _
          l.invariant.1
          (omega arith)
          (rw (c.entry_at-entry.ensures, c.min.ensures) at c.where_kept-begins.ensures)
          (rw (c.entry_at-entry.ensures, c.max.ensures) at c.where_kept-ends.ensures)
          (rw c.entry_at-entry.ensures),
    )

pub returns : goal.returns
returns c =
    let l = c.loop-i in
    let all : l.i ≡ length c.args.columns.now.a.now = omega arith in
    lays_all (λ k h. l.invariant.0 k (omega arith)) (rw all at l.invariant.1.so_far)
