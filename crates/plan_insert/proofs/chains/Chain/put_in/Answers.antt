-- Candidate e comes first, or after the last link above it: both are laws of `Moves`. Assumes nothing.
use Prim.Native.Nat.{suc, ◌<◌}
use native.Mathlib.Omega.{arith}
use Rattle.plan_insert.specs.State.{at}
use Rattle.plan_insert.specs.Moves.{follows, put_far, put_in_first, put_in_after}
use Rattle.plan_insert.proofs.chains.Chain.put_in.Goals as goal

pub returns-then-first-e : goal.returns-then-first-e
returns-then-first-e c w = put_in_first w.0 w.1 (omega arith) (omega arith) c.if-first-e.true

pub last_above-j-requires : goal.last_above-j-requires
last_above-j-requires c =
    let far : let a = c.args in suc a.e < at a.self.now.head a.v = let p = c.requires in put_far p.0 p.1 c.if-first-e.false in
    follows c.requires.0 far

pub returns : goal.returns
returns c w =
    let far : let a = c.args in suc a.e < at a.self.now.head a.v = let p = c.requires in put_far p.0 p.1 c.if-first-e.false in
    put_in_after w.0 w.1 (omega arith) far c.last_above-j.ensures.last
