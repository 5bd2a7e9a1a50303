use Rattle.std.proofs.Common.{arith, refl, ℕ, ◌≤◌, pos, ◌-ℤ◌, w64, to_z}
use Rattle.std.proofs.Math.Facts.{to_z_pos}
use Rattle.base_sums.specs.At.{at}
use Rattle.base_signed.specs.Parts.{neg}
use Rattle.base_signed.specs.Bits.{ReadsAs, minus, within}
use Rattle.plan_row.specs.Laying.{laying_more}
use Rattle.plan_row.proofs.lay.Goals as goal

-- the cost of a request with this profit
paid : (gain : ℕ) → gain ≤ 1000000 → ReadsAs (pos 0 -ℤ to_z w64 gain) (pos 0 -ℤ pos gain)
paid gain upto = minus (pos 0) (pos gain) refl (to_z_pos w64 (omega arith)) (within (pos 0 -ℤ pos gain) 1000000 (omega arith) (omega (arith, neg (pos gain))))

pub loop-i-preserved : goal.loop-i-preserved
loop-i-preserved c =
    let l = c.loop-i in
    let gain : ℕ = at c.args.columns.now.profit.now l.i in
    let z = neg (pos gain) in
    (l.invariant.0, rw (paid gain (c.requires.upto l.i (omega arith))).again (laying_more _ l.invariant.1 (omega arith) (omega arith) (omega arith) z.rise z.fall))
