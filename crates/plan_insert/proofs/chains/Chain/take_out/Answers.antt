-- Candidate e is the first link, or comes after the last link above it: both are laws of `Moves`. Assumes nothing.
use Prim.Native.Nat.{suc, ◌<◌}
use native.Mathlib.Omega.{arith}
use Rattle.plan_insert.specs.State.{at}
use Rattle.plan_insert.specs.Moves.{follows, take_far, take_out_first, take_out_after}
use Rattle.plan_insert.proofs.chains.Chain.take_out.Goals as goal

pub returns-then-first-e : goal.returns-then-first-e
returns-then-first-e c w = take_out_first w.0 w.1 (omega arith) c.if-first-e.true

pub last_above-j-requires : goal.last_above-j-requires
last_above-j-requires c =
    let far : let a = c.args in suc a.e < at a.self.now.head a.v = let p = c.requires in take_far p.0 p.1 c.if-first-e.false in
    follows c.requires.0 far

pub returns : goal.returns
returns c w =
    let far : let a = c.args in suc a.e < at a.self.now.head a.v = let p = c.requires in take_far p.0 p.1 c.if-first-e.false in
    take_out_after w.0 w.1 (omega arith) far c.last_above-j.ensures.last
