-- Entries made from a kept set, ways and channels (01, "Routes": 0 when it is not kept, else way times 256 plus channel), and read again:
-- a channel below 256 leaves the way whole. Assumes nothing.
use Rattle.std.specs.Prelude.{◌≡◌, Bool, true, false, ℕ, ◌+◌, ◌*◌, ◌≤◌, ◌<◌}
use Rattle.std.proofs.Common.{sym, ◌∙◌, arith}
use Rattle.std.proofs.Math.Logic.{⊎_elim}
use borrow.Author.Tests.{eqb-true, ne_eqb, not-false}
use Rattle.base_sums.specs.Each.{decided}
use Rattle.base_sums.specs.Sums.{when}
use Rattle.paper_rules.specs.Plans.{Plan, kept, way, channel}

unfoldable pub entered : (ℕ → Bool) → (ℕ → ℕ) → (ℕ → ℕ) → Plan
entered x ways channels i = when (x i) (ways i * 256 + channels i)

module _ (x : ℕ → Bool) (ways channels : ℕ → ℕ) (i : ℕ) where
  pub kept_entered : 1 ≤ ways i → kept (entered x ways channels) i ≡ x i
  unfolding kept entered
  kept_entered l = ⊎_elim (λ e. rw (e, ne_eqb (ways i * 256 + channels i) 0 (λ q. omega arith))) (λ e. rw e) (decided (x i))

  pub way_entered : x i ≡ true → channels i < 256 → way (entered x ways channels) i ≡ ways i
  unfolding way entered
  way_entered e l = rw e (omega arith)

  pub channel_entered : x i ≡ true → channels i < 256 → channel (entered x ways channels) i ≡ channels i
  unfolding channel entered
  channel_entered e l = rw e (omega arith)

-- an entry that is not kept is 0
pub not_kept_zero : (plan : Plan) (i : ℕ) → kept plan i ≡ false → plan i ≡ 0
unfolding kept
not_kept_zero plan i e = eqb-true (plan i) 0 (not-false _ e)

-- an entry is known by whether it is kept, its way and its channel
pub same_entry :
    (plan other : Plan) (i : ℕ)
    → kept plan i ≡ kept other i → (kept plan i ≡ true → way plan i ≡ way other i) → (kept plan i ≡ true → channel plan i ≡ channel other i)
    → plan i ≡ other i
unfolding kept way channel
same_entry plan other i same ways channels =
    ⊎_elim (λ k. omega (arith, ways k, channels k)) (λ k. not_kept_zero plan i k ∙ sym (not_kept_zero other i (sym same ∙ k))) (decided (kept plan i))
