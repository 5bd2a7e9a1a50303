use Prim.Native.Nat.{◌+◌}
use native.Mathlib.Omega.{arith}
use Rattle.std.proofs.Common.{length, refl}
use Rattle.plan_channels.specs.HandOut.{at}
use Rattle.plan_channels.specs.Lists.{Leads}
use Rattle.plan_channels.specs.Stages.{stage_pass, stage_next}
use Rattle.plan_channels.specs.Turns.{turn_enough, turn_gives}
use Rattle.plan_channels.proofs.ByNode.give_from.Goals as goal

-- one of 1 to k is always left, so this way is not taken
pub returns-in_default : goal.returns-in_default
returns-in_default c =
    let (cells, lo, kept, listed, stage) = c.requires.by_index in
    let now = c.loop-i.invariant cells lo kept listed stage in
    let own = now.1 (omega arith) in
    let enough = turn_enough now.2 (omega arith) own.0 own.1 in
    let none = c.in_default.ensures in
    absurd (omega arith)

pub loop-i-preserved : goal.loop-i-preserved
loop-i-preserved c cells lo kept listed stage =
    let args = c.args in
    let now = c.loop-i.invariant cells lo kept listed stage in
    let own = now.1 (omega arith) in
    let next : Leads (length args.hi.now) (c.loop-i.i + 1) args.v lo kept (at args.self.now.after c.loop-i.i) =
    rw own.1 at (listed.next c.loop-i.i (omega arith) (omega arith) own.0)
    in (
      next.upto,
      next.here,
      rw c.in-Some.ensures.0 (stage_pass (turn_gives now.2 (omega arith) own.0 own.1) next),
    )

pub returns : goal.returns
returns c lo kept listed = record {
  all = refl;
  next = λ cells stage. let now = c.loop-i.invariant cells lo kept listed stage in stage_next now.2 (omega arith) now.0;
}
