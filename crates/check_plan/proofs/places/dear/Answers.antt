use mathlib.Core.Path.{sym}
use native.Mathlib.Omega.{arith}
use borrow.Author.Tests.{lt-ltb}
use Rattle.base_sums.specs.Each.{first_here, first_none}
use Rattle.check_plan.proofs.places.dear.Goals as goal

pub returns-then-price_at-gt1000000 : goal.returns-then-price_at-gt1000000
returns-then-price_at-gt1000000 c =
    let l = c.loop-s in
    (omega arith, sym (first_here _ _ l.s (omega arith) l.invariant (λ h. lt-ltb _ _ (rw c.price_at.ensures at c.if-price_at-gt1000000.true))))

pub returns : goal.returns
returns c = first_none _ _ (λ s l. c.loop-s.invariant s (omega arith))
