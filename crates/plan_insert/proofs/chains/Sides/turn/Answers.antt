-- Each way passes candidate e from the chain of its flag to the other: laws of `Flags`. Assumes nothing.
use Rattle.std.proofs.Common.{arith}
use Rattle.plan_insert.specs.Flags.{drop_out, drop_in, keep_out, keep_in, turned_dropped, turned_kept}
use Rattle.plan_insert.proofs.chains.Sides.turn.Goals as goal

pub pass-requires : goal.pass-requires
pass-requires c =
    let w = c.requires.2 in
    record { out = drop_out w (omega arith) c.if-kept-e.true; into = drop_in w (omega arith) c.if-kept-e.true }

pub returns-then-kept-e : goal.returns-then-kept-e
returns-then-kept-e c = turned_dropped (omega arith) c.if-kept-e.true c.pass.ensures.left c.pass.ensures.joined

pub pass-requires-else-kept-e : goal.pass-requires-else-kept-e
pass-requires-else-kept-e c =
    let w = c.requires.2 in
    record { out = keep_out w (omega arith) c.if-kept-e.false; into = keep_in w (omega arith) c.if-kept-e.false }

pub returns-else-kept-e : goal.returns-else-kept-e
returns-else-kept-e c = turned_kept (omega arith) c.if-kept-e.false c.pass-else-kept-e.ensures.left c.pass-else-kept-e.ensures.joined
