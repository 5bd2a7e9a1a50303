-- From one stage of a spreading node to the next and the one after: two `Spreads` make one, and the node's label stays within its bound.
-- Assumes nothing.
use Rattle.std.specs.Prelude.{ℕ}
use Rattle.std.proofs.Common.{arith}
use Rattle.law_flow.specs.Searching.{Ground}
use Rattle.plan_insert.specs.State.{Marks, Spreads}

module _ {g : Ground} {most : ℕ} {First Now Then : Ground → ℕ → (ℕ → ℕ) → Type 0} {u : ℕ} {m m' m'' : Marks} where
  pub spreads_on : Spreads g most First Now u m m' → Spreads g most Now Then u m' m'' → Spreads g most First Then u m m''
  spreads_on s t = record { on = λ b rank clock h. t.on b rank clock (s.on b rank clock h); no_longer = omega (arith, s.no_longer, t.no_longer) }
