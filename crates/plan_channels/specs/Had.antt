-- Who had its turn. Turns go by first node, then by number, to those that have a flag: the kept ones when channels are given, the ones that cross a span when a
-- plan is swept for clashes. Assumes nothing.
use Rattle.std.specs.Prelude.{Bool, true, List, ◌≡◌, ℕ, ◌+◌, ◌*◌, ◌≤◌, ◌<◌}
use Rattle.std.proofs.Common.{arith}
use Rattle.base_sums.specs.Each.{not_above}
use Rattle.plan_channels.specs.HandOut.{at, flag}
use Rattle.plan_channels.specs.Lists.{Leads}

-- the turn of number i at node v; a number is below 256, so no node's turns reach into the next one's
abbrev pub turn_of : ℕ → ℕ → ℕ
turn_of v i = v * 256 + i

-- number j has the flag, and its turn is before that of number i at node v
pub record Had (count : ℕ) (lo : List ℕ) (flags : List Bool) (v i j : ℕ) : Type 0 where
  pub low : j < count
  pub real : flag flags j ≡ true
  pub early : turn_of (at lo j) j < turn_of v i

-- the same ones had theirs before number i at node v as before number p at node w
pub record SameHad (count : ℕ) (lo : List ℕ) (flags : List Bool) (v i w p : ℕ) : Type 0 where
  pub there : (j : ℕ) → Had count lo flags v i j → Had count lo flags w p j
  pub back : (j : ℕ) → Had count lo flags w p j → Had count lo flags v i j

module _ {count : ℕ} {lo : List ℕ} {flags : List Bool} (few : count ≤ 256) where
  -- the numbers from i to p have no turn at v, where none of them has the flag and begins
  pub had_pass : {v i p : ℕ} → Leads count i v lo flags p → SameHad count lo flags v i v p
  had_pass {v} {i} {p} m = record { there = λ j h. record { low = h.low; real = h.real; early = omega (arith, h.early, m.on) }; back = back }
    where
      back : (j : ℕ) → Had count lo flags v p j → Had count lo flags v i j
      back j h = record { low = h.low; real = h.real; early = not_above (λ g. now (omega arith)) }
        where
          now : turn_of v i ≤ turn_of (at lo j) j → ⊥
          now g =
              let begins : at lo j ≡ v = omega (arith, m.upto, h.early, h.low) in
              m.passed j (omega arith) (omega (arith, h.early)) h.low h.real begins

  -- every number had its turn at node v, whose turns end where the next one's begin
  pub had_next : {v i : ℕ} → count ≤ i → i ≤ 256 → SameHad count lo flags v i (v + 1) 0
  had_next past upto = record {
    there = λ j h. record { low = h.low; real = h.real; early = omega (arith, h.early) };
    back = λ j h. record { low = h.low; real = h.real; early = omega (arith, h.early, h.low) };
  }

  -- before the turn that follows number i's come those before, and i
  pub had_older : {v i j : ℕ} → i < count → (j ≡ i → ⊥) → Had count lo flags v (i + 1) j → Had count lo flags v i j
  had_older l ne h = record { low = h.low; real = h.real; early = not_above (λ g. ne (omega (arith, h.early, h.low))) }

module _ {count : ℕ} {lo : List ℕ} {flags : List Bool} {v i : ℕ} where
  pub had_newer : {j : ℕ} → Had count lo flags v i j → Had count lo flags v (i + 1) j
  had_newer h = record { low = h.low; real = h.real; early = omega (arith, h.early) }

  pub had_own : i < count → flag flags i ≡ true → at lo i ≡ v → Had count lo flags v (i + 1) i
  had_own l is begins = record { low = l; real = is; early = omega arith }

  -- number i does not come before itself
  pub had_apart : {j : ℕ} → at lo i ≡ v → Had count lo flags v i j → j ≡ i → ⊥
  had_apart begins h q = let self : turn_of (at lo i) i < turn_of v i = rw q at h.early in omega arith
