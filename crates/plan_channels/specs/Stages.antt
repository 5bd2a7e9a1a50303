-- Channels are given in the order of the rule, by first cell, then by number. When a turn in that order has come, exactly the kept ones that had theirs
-- have a channel, and it is the one that the rule gives them; past the last cell all kept ones are before, so they follow the rule. Assumes nothing.
use Rattle.std.specs.Prelude.{Bool, true, false, List, ◌++◌, ◌≡◌, refl, ℕ, ◌+◌, ◌≤◌, ◌<◌, replicate, length, Result, Ok, IsOk, ⊤}
use Rattle.std.proofs.Common.{⊎_elim, sym, ◌∙◌, arith}
use Rattle.std.proofs.Math.ListN.{get_or-append}
use Rattle.std.proofs.lemmas.List.{length-replicate}
use Rattle.base_sums.specs.At.{zeros}
use Rattle.base_sums.specs.Each.{of_yes, less_or_not}
use Rattle.base_sums.specs.Filled.{Filled}
use Rattle.base_sums.specs.Lowest.{lowest_free}
use Rattle.law_row.specs.Row.{held_before}
use Rattle.law_row.specs.Channels.{Ruled, rule_ext, found, ruled_exists}
use Rattle.plan_channels.specs.HandOut.{at, flag, row_on, CanHandOut, HandedOut}
use Rattle.plan_channels.specs.Had.{Had, SameHad, had_pass, had_next}
use Rattle.plan_channels.specs.Latest.{Latest, latest_start, latest_same}
use Rattle.plan_channels.specs.Lists.{Leads}
use Rattle.plan_channels.specs.declared.NoneLeft.{NoneLeft}

-- the channels by the rule: there is one such choice (`ruled_exists` and `ruled_once` of the crate row)
abbrev pub rule : ℕ → ℕ → ℕ → List ℕ → List ℕ → List Bool → ℕ → ℕ
rule cells count k lo hi kept = (ruled_exists (row_on cells count lo hi) k (flag kept)).0

-- it is the turn of number i at node v; `ends` is all that is remembered of the channels given
pub record Stage (cells count k : ℕ) (lo hi : List ℕ) (kept : List Bool) (channel ends : List ℕ) (v i : ℕ) : Type 0 where
  pub can : CanHandOut cells count k lo hi kept
  pub long : length channel ≡ 256
  pub given : (j : ℕ) → Had count lo kept v i j → at channel j ≡ rule cells count k lo hi kept j
  pub only : (j : ℕ) → j < count → 0 < at channel j → Had count lo kept v i j
  pub latest : Latest 128 count lo hi kept channel ends v i

-- what giving the channels of node v comes to; the number of cells plays no part in it, so it is said for each
pub record NodeGiven (v count k : ℕ) (lo hi : List ℕ) (kept : List Bool) (channel ends : List ℕ) (given : Result ⊤ NoneLeft) (channel' ends' : List ℕ) : Type 0 where
  pub all : IsOk given
  pub next : (cells : ℕ) → Stage cells count k lo hi kept channel ends v 0 → Stage cells count k lo hi kept channel' ends' (v + 1) 0

-- ---- what the rule gives

module _ {cells count k : ℕ} {lo hi : List ℕ} {kept : List Bool} (can : CanHandOut cells count k lo hi kept) where
  pub rule_is : Ruled (row_on cells count lo hi) k (flag kept) (rule cells count k lo hi kept)
  rule_is = (ruled_exists (row_on cells count lo hi) k (flag kept)).1

  pub rule_upto : (i : ℕ) → i < count → flag kept i ≡ true → rule cells count k lo hi kept i ≤ k
  rule_upto = found (row_on cells count lo hi) k (flag kept) (rule cells count k lo hi kept) can.fits can.proper rule_is

-- ---- from one stage to the next

module _ {cells count k : ℕ} {lo hi : List ℕ} {kept : List Bool} {channel ends : List ℕ} {v i : ℕ} (s : Stage cells count k lo hi kept channel ends v i) where
  -- a channel is 0 or the rule's
  channel_upto : (j : ℕ) → j < count → at channel j ≤ k
  channel_upto j l = ⊎_elim real (λ h. omega arith) (less_or_not 0 (at channel j))
    where
      real : 0 < at channel j → at channel j ≤ k
      real h = let had = s.only j l h in rw (s.given j had) (rule_upto s.can j l had.real)

  -- the same ones had their turn before the one as before the other
  stage_same : {w p : ℕ} → SameHad count lo kept v i w p → Stage cells count k lo hi kept channel ends w p
  stage_same same = record {
    can = s.can;
    long = s.long;
    given = λ j h. s.given j (same.back j h);
    only = λ j l h. same.there j (s.only j l h);
    latest = latest_same same s.latest;
  }

  -- the numbers from i to p are passed over
  pub stage_pass : {p : ℕ} → Leads count i v lo kept p → Stage cells count k lo hi kept channel ends v p
  stage_pass m = stage_same (had_pass s.can.count_upto m)

  -- every number had its turn at node v
  pub stage_next : count ≤ i → i ≤ 256 → Stage cells count k lo hi kept channel ends (v + 1) 0
  stage_next past upto = stage_same (had_next s.can.count_upto past upto)

-- channels of which the first `count` were cleared
pub cleared : {count : ℕ} {part : List ℕ} → part ≡ replicate count 0 → (rest : List ℕ) → Filled (λ j. 0) count (part ++ rest)
cleared {count} e rest = record {
  is = λ j l. rw e (get_or-append (replicate count 0) rest 0 j (rw (length-replicate {A = ℕ} count 0) l) ∙ zeros count j);
}

module _ {cells count k : ℕ} {lo hi : List ℕ} {kept : List Bool} {channel : List ℕ} where
  pub stage_start : CanHandOut cells count k lo hi kept → length channel ≡ 256 → Filled (λ j. 0) count channel → Stage cells count k lo hi kept channel (replicate 128 0) 0 0
  stage_start can long none =
      record { can = can; long = long; given = λ j h. absurd (omega (arith, h.early)); only = λ j l h. absurd (omega (arith, none.is j l)); latest = latest_start }

  -- every kept one begins before the last node
  pub stage_end : {ends : List ℕ} → Stage cells count k lo hi kept channel ends cells 0 → HandedOut cells count k lo hi kept (Ok tt) channel
  stage_end s = record { all = refl; ruled = record { is = is }; upto = channel_upto s; none = none }
    where
      every : (j : ℕ) → j < count → flag kept j ≡ true → at channel j ≡ rule cells count k lo hi kept j
      every j l e =
          s.given j (record { low = l; real = e; early = omega (arith, s.can.proper.some_cell j l, s.can.proper.in_row j l, s.can.count_upto) })

      is : (i : ℕ) → i < count → flag kept i ≡ true → at channel i ≡ lowest_free k (held_before (row_on cells count lo hi) (flag kept) (at channel) i)
      is i l e =
          every i l e ∙ (rule_is s.can).is i l e
          ∙ rule_ext (row_on cells count lo hi) (flag kept) k _ (at channel) i (record { at = λ j lj ej b. sym (every j lj ej) })

      none : (i : ℕ) → i < count → flag kept i ≡ false → at channel i ≡ 0
      none i l e = ⊎_elim (λ h. absurd (of_yes (sym e ∙ (s.only i l h).real))) (λ h. omega arith) (less_or_not 0 (at channel i))
