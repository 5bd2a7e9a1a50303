-- What a sum over what is kept counts at each place, and such a sum after one turn more of its loop: a kept one adds what it counts for, another nothing. Assumes nothing.
use Rattle.std.specs.Prelude.{◌≡◌, Bool, true, false, List, ℕ, ◌+◌, ◌≤◌}
use Rattle.std.proofs.Common.{sym}
use Rattle.base_sums.specs.At.{flag}
use Rattle.base_sums.specs.Sums.{when, when_yes, when_no}
use Rattle.base_sums.specs.Turns.{Running, running_more, running_still}

abbrev pub over_kept : List Bool → (ℕ → ℕ) → ℕ → ℕ
over_kept kept f i = when (flag kept i) (f i)

module _ (kept : List Bool) (f : ℕ → ℕ) {most n sum : ℕ} (was : Running most (over_kept kept f) n sum) where
  pub kept_more : flag kept n ≡ true → f n ≤ most → Running most (over_kept kept f) (n + 1) (sum + f n)
  kept_more e upto = running_more (f n) was (sym (when_yes (flag kept n) (f n) e)) upto

  pub left_more : flag kept n ≡ false → Running most (over_kept kept f) (n + 1) sum
  left_more e = running_still was (when_no (flag kept n) (f n) e)
