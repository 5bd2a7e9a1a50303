-- The lowest channel that is free (01, "What the planner hands back": "the lowest channel not held by .."). Assumes nothing.
use Rattle.std.specs.Prelude.{◌≡◌, Bool, true, false, not, ℕ, zero, suc, ◌+◌, ◌≤◌, ◌<◌}
use Rattle.std.proofs.Common.{ap, arith}
use Rattle.std.proofs.lemmas.Bool.{not-true, not-false}
use Rattle.base_sums.specs.Each.{first, first_upto, before_first, first_passes, first_here, first_ext}

-- the lowest of the channels 1 to k that is not held, or k + 1 where none is left
unfoldable pub lowest_free : ℕ → (ℕ → Bool) → ℕ
lowest_free k held = suc (first k (λ c. not (held (suc c))))

-- ---- what it finds: all below it are held, and it is free itself unless it is k + 1

pub lowest_from : (k : ℕ) (held : ℕ → Bool) → 1 ≤ lowest_free k held
unfolding lowest_free
lowest_from k held = omega arith

pub lowest_upto : (k : ℕ) (held : ℕ → Bool) → lowest_free k held ≤ k + 1
unfolding lowest_free
lowest_upto k held = omega (arith, first_upto k (λ c. not (held (suc c))))

pub lowest_free_lem : (k : ℕ) (held : ℕ → Bool) → lowest_free k held ≤ k → held (lowest_free k held) ≡ false
unfolding lowest_free
lowest_free_lem k held h = not-true _ (first_passes k (λ c. not (held (suc c))) (omega arith))

pub lowest_held : (k : ℕ) (held : ℕ → Bool) (c : ℕ) → 1 ≤ c → c < lowest_free k held → held c ≡ true
unfolding lowest_free
lowest_held k held zero l h = absurd (omega arith)
lowest_held k held (suc c) l h = not-false _ (before_first k (λ d. not (held (suc d))) c (omega arith))

-- only what is held of 1 to k matters
pub lowest_ext : (k : ℕ) (g h : ℕ → Bool) → ((c : ℕ) → 1 ≤ c → c ≤ k → g c ≡ h c) → lowest_free k g ≡ lowest_free k h
unfolding lowest_free
lowest_ext k g h e = ap suc (first_ext k _ _ (λ c l. ap not (e (suc c) (omega arith) l)))

-- and no other channel is such
pub lowest_is :
    (k : ℕ) (held : ℕ → Bool) (c : ℕ)
    → 1 ≤ c → c ≤ k + 1 → (c ≤ k → held c ≡ false) → ((d : ℕ) → 1 ≤ d → d < c → held d ≡ true) → lowest_free k held ≡ c
unfolding lowest_free
lowest_is k held zero l u free below = absurd (omega arith)
lowest_is k held (suc c) l u free below =
    ap suc (first_here k _ c (omega arith) (λ d h. ap not (below (suc d) (omega arith) (omega arith))) (λ h. ap not (free (omega arith))))
