-- Each way out is one lemma of `WalkBack`; the stores are safe by what `CanFlip` says of the arc. Assumes nothing.
use Rattle.std.proofs.Common.{arith}
use Rattle.plan_insert.specs.WalkBack.{flipped_up, flipped_down, flipped_turn}
use Rattle.plan_insert.proofs.chains.Sides.flip.Goals as goal

pub returns-in-256 : goal.returns-in-256
returns-in-256 c = flipped_up _ _ _ _ _ _ c.in-256.is

pub returns-in-257 : goal.returns-in-257
returns-in-257 c = flipped_down _ _ _ _ _ _ c.in-257.is

pub turn-requires : goal.turn-requires
turn-requires c =
    let p = c.requires in
    p.turn (omega (arith, p.arc))

pub returns-in_default : goal.returns-in_default
returns-in_default c =
    flipped_turn _ _ _ _ _ _ (λ q. omega arith) (λ q. omega arith) c.turn.ensures
