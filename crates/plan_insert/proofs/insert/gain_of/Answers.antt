use Rattle.std.proofs.Common.{arith}
use Rattle.std.proofs.lemmas.Int.{ints, clamps}
use Rattle.base_signed.specs.Bits.{back, known}
use Rattle.plan_insert.specs.Depths.{gain_made}
use Rattle.plan_insert.proofs.insert.gain_of.Goals as goal

pub returns : goal.returns
returns c =
    let r = rw (gain_made c.requires).again at c.max.ensures.value in
    rw (back (known _ c.max.type_inv)) (omega (arith, ints, clamps, r))
