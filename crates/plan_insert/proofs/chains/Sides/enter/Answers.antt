-- Candidate t goes into the chain of its flag, and the other chain stays as it was: laws of `Flags`. Assumes nothing.
use Rattle.std.proofs.Common.{refl, true, false, arith}
use Rattle.plan_insert.specs.Flags.{enters, entered_kept, entered_dropped}
use Rattle.plan_insert.proofs.chains.Sides.enter.Goals as goal

pub put_in-requires : goal.put_in-requires
put_in-requires c =
    let p = c.requires in
    enters c.args.kept.now false p.ends.0 p.ends.1 p.ends.2 (omega arith) p.before.dropped

pub returns-in-Dropped-clause-chained : goal.returns-in-Dropped-clause-chained
returns-in-Dropped-clause-chained c =
    let p = c.requires in
    entered_dropped (omega arith) p.before refl (c.put_in.ensures (enters c.args.kept.now false p.ends.0 p.ends.1 p.ends.2 (omega arith) p.before.dropped))

pub put_in-requires-in-Held : goal.put_in-requires-in-Held
put_in-requires-in-Held c =
    let p = c.requires in
    enters c.args.kept.now true p.ends.0 p.ends.1 p.ends.3 (omega arith) p.before.held

pub returns-in-Held-clause-chained : goal.returns-in-Held-clause-chained
returns-in-Held-clause-chained c =
    let p = c.requires in
    entered_kept (omega arith) p.before refl (c.put_in-in-Held.ensures (enters c.args.kept.now true p.ends.0 p.ends.1 p.ends.3 (omega arith) p.before.held))
