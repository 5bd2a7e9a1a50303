-- `plan_turn::span_at` meets its contract: each branch is one case of the definition. Assumes nothing.
use native.Mathlib.Omega.{arith}
use Rattle.law_ring.specs.Turn.{span_round, span_ahead}
use Rattle.plan_turn.proofs.span_at.Goals as goal

pub returns-then-n-s : goal.returns-then-n-s
returns-then-n-s c = span_round _ _ _ (omega arith)

pub returns : goal.returns
returns c = span_ahead _ _ _ (omega arith)
