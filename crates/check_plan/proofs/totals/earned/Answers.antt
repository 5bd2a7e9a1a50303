use mathlib.Core.Bool.{not}
use Prim.Native.Nat.{◌≤◌}
use native.Mathlib.Omega.{arith}
use lib.Dec.{eqb}
use Rattle.base_sums.specs.Sums.{when_le}
use Rattle.base_sums.specs.Turns.{running_none, running_more}
use Rattle.paper_book.specs.Bytes.{entry_in}
use Rattle.paper_book.specs.Columns.{at}
use Rattle.paper_rules.specs.Plans.{kept}
use Rattle.check_plan.proofs.totals.earned.Goals as goal

pub loop-i-init : goal.loop-i-init
loop-i-init c = running_none

pub loop-i-preserved : goal.loop-i-preserved
unfolding kept
loop-i-preserved c =
    let l = c.loop-i in
    let earns = rw c.entry_at-entry.ensures at c.where_kept-sum.ensures in
    let upto_profit : c.where_kept-sum.result ≤ 1000000 =
    omega (arith, earns, when_le (not (eqb (entry_in c.args.entries.now l.i) 0)) (at c.args.profits.now l.i), c.requires.profits_in.upto l.i (omega arith)) in
    running_more _ l.invariant earns upto_profit
