-- `plan_turn::steps` meets its contract: each branch is one case of the definition. Assumes nothing.
use native.Mathlib.Omega.{arith}
use Rattle.law_ring.specs.Turn.{steps_ahead, steps_round}
use Rattle.plan_turn.proofs.steps.Goals as goal

pub returns-then-u-v : goal.returns-then-u-v
returns-then-u-v c = steps_ahead _ _ _ (omega arith)

pub returns : goal.returns
returns c = steps_round _ _ _ (omega arith)
