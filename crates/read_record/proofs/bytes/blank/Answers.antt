use mathlib.Core.Path.{sym, ◌∙◌}
use native.Mathlib.Omega.{arith}
use Rattle.read_record.specs.Blank.{all_blank, not_blank}
use Rattle.read_record.proofs.bytes.blank.Goals as goal

pub returns-then-byte-ne0 : goal.returns-then-byte-ne0
returns-then-byte-ne0 c = sym (not_blank _ _ _ c.loop-i.i (omega arith) (λ e. c.if-byte-ne0.true (c.byte.ensures.value ∙ e)))

pub returns : goal.returns
returns c = sym (all_blank _ _ _ (λ k h. c.loop-i.invariant k (omega arith)))
