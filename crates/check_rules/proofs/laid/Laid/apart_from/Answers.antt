use Prim.Native.Nat.{◌+◌}
use native.Mathlib.Omega.{arith}
use Rattle.paper_book.specs.Columns.{at}
use Rattle.plan_channels.specs.Lists.{Leads}
use Rattle.check_rules.specs.Sweep.{swept_pass, swept_more}
use Rattle.check_rules.proofs.laid.Laid.apart_from.Goals as goal

pub loop-i-init : goal.loop-i-init
loop-i-init c =
    let begin = c.requires.listed_by_node.begins c.args.v (omega arith) in
    (begin.upto, begin.here, swept_pass c.requires.v_bound.1 c.requires.swept begin)

pub loop-i-preserved : goal.loop-i-preserved
loop-i-preserved c =
    let own = c.loop-i.invariant.1 (omega arith) in
    let can = c.requires.v_bound.1 in
    let next : Leads c.args.count (c.loop-i.i + 1) c.args.v c.args.self.now.lo c.args.self.now.crossing (at c.args.lists.now.after c.loop-i.i) =
    rw own.1 at (c.requires.listed_by_node.next c.loop-i.i (omega arith) (omega arith) own.0) in
    (next.upto, next.here, swept_pass can (swept_more can c.loop-i.invariant.2 (omega arith) own.0 own.1 (omega arith)) next)
