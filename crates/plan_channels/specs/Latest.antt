-- Where the latest connection on each channel ends. Turns go by first node, so a channel is held past a node exactly where its latest connection reaches past
-- it: no earlier one on it ends later. One that has its turn on a channel free at its node becomes the latest there. Assumes nothing.
use Rattle.std.specs.Prelude.{Bool, true, List, ◌≡◌, ℕ, ◌+◌, ◌≤◌, ◌<◌, set, replicate, length, ltb, Option, None, Some, MatchOption}
use Rattle.std.proofs.Common.{⊎_elim, sym, ◌∙◌, arith, length-set, lt-ltb}
use Rattle.std.proofs.lemmas.List.{length-replicate}
use Rattle.base_sums.specs.At.{zeros, Stored, store}
use Rattle.base_sums.specs.Each.{same_or_not}
use borrow.Author.Tests.{le-ltb}
use Rattle.base_sums.specs.Lowest.{lowest_free, lowest_is}
use Rattle.plan_channels.specs.HandOut.{at, flag}
use Rattle.plan_channels.specs.Had.{Had, SameHad, had_newer, had_older, had_own, had_apart}

-- channel c is held past node `from`
abbrev pub held_past : List ℕ → ℕ → ℕ → Bool
held_past ends from c = ltb from (at ends c)

-- the lowest free one of the channels 1 to k was found, or none of them is free
abbrev pub LowestFound : ℕ → (ℕ → Bool) → Option ℕ → Type 0
LowestFound k held found = MatchOption found (k < lowest_free k held) (λ c. (c ≡ lowest_free k held) × (c ≤ k))

-- the first of them whose latest connection ends no later than `from` is found so
pub lowest_found :
    (k : ℕ) (ends : List ℕ) (from : ℕ) (found : Option ℕ)
    → MatchOption found ((c : ℕ) → 1 ≤ c → c < k + 1 → from < at ends c) (λ c. (1 ≤ c) × (c < k + 1) × (at ends c ≤ from) × ((d : ℕ) → 1 ≤ d → d < c → from < at ends d))
    → LowestFound k (held_past ends from) found
lowest_found k ends from None held =
    let past = lowest_is k (held_past ends from) (k + 1) (omega arith) (omega arith) (λ l. absurd (omega arith)) (λ d one l. lt-ltb _ _ (held d one l)) in
    omega arith
lowest_found k ends from (Some c) (one, upto, free, held) =
    (sym (lowest_is k (held_past ends from) c one (omega arith) (λ l. le-ltb _ _ free) (λ d from l. lt-ltb _ _ (held d from l))), omega arith)

-- of those that had their turn none on a channel ends past the end remembered for it, and one ends there, unless it is 0
pub record Latest (size count : ℕ) (lo hi : List ℕ) (flags : List Bool) (channel ends : List ℕ) (v i : ℕ) : Type 0 where
  pub long : length ends ≡ size
  pub upto : (j : ℕ) → Had count lo flags v i j → at hi j ≤ at ends (at channel j)
  pub by : (c : ℕ) → 0 < at ends c → (j : ℕ) × Had count lo flags v i j × (at channel j ≡ c) × (at hi j ≡ at ends c)

module _ {size count : ℕ} {lo hi : List ℕ} {flags : List Bool} {channel : List ℕ} where
  -- no turn was had yet, and no end is remembered
  pub latest_start : Latest size count lo hi flags channel (replicate size 0) 0 0
  latest_start = record { long = length-replicate size 0; upto = λ j h. absurd (omega (arith, h.early)); by = λ c h. absurd (omega (arith, zeros size c)) }

  pub latest_same :
      {ends : List ℕ} {v i w p : ℕ} → SameHad count lo flags v i w p → Latest size count lo hi flags channel ends v i
      → Latest size count lo hi flags channel ends w p
  latest_same same was = record {
    long = was.long;
    upto = λ j h. was.upto j (same.back j h);
    by = λ c h. let last = was.by c h in (last.0, same.there last.0 last.1, last.2, last.3);
  }

  -- number i has its turn, on channel c, whose latest connection ends no later than i does; the others keep their channels
  module _
      {ends channel' : List ℕ} {v i c : ℕ}
      (was : Latest size count lo hi flags channel ends v i) (few : count ≤ 256) (l : i < count) (is : flag flags i ≡ true) (begins : at lo i ≡ v)
      (small : c < size) (earlier : at ends c ≤ at hi i) (mine : at channel' i ≡ c) (others : (j : ℕ) → (j ≡ i → ⊥) → at channel' j ≡ at channel j)
    where
      pub latest_more : Latest size count lo hi flags channel' (set ends c (at hi i)) v (i + 1)
      latest_more = record { long = length-set ends c (at hi i) ∙ was.long; upto = upto; by = by }
        where
          after : List ℕ
          after = set ends c (at hi i)

          latest : Stored 0 ends c (at hi i) after
          latest = store 0 ends c (at hi i) (omega (arith, was.long))

          -- an earlier one on c ended by then
          before : (j : ℕ) → Had count lo flags v i j → at hi j ≤ at after (at channel j)
          before j h =
              ⊎_elim (λ q. same q) (λ ne. rw (latest.elsewhere (at channel j) ne) (was.upto j h)) (same_or_not (at channel j) c)
            where
              same : at channel j ≡ c → at hi j ≤ at after (at channel j)
              same q =
                  let old : at hi j ≤ at ends c = rw q at (was.upto j h) in
                  rw (latest.here (at channel j) q) (omega arith)

          upto : (j : ℕ) → Had count lo flags v (i + 1) j → at hi j ≤ at after (at channel' j)
          upto j h =
              ⊎_elim (λ (q : j ≡ i). rw (q, latest.here (at channel' i) mine) (omega arith)) (λ ne. rw (others j ne) (before j (had_older few l ne h))) (same_or_not j i)

          by : (d : ℕ) → 0 < at after d → (j : ℕ) × Had count lo flags v (i + 1) j × (at channel' j ≡ d) × (at hi j ≡ at after d)
          by d h = ⊎_elim (λ q. (i, had_own l is begins, mine ∙ sym q, sym (latest.here d q))) (λ ne. old ne) (same_or_not d c)
            where
              old : (d ≡ c → ⊥) → (j : ℕ) × Had count lo flags v (i + 1) j × (at channel' j ≡ d) × (at hi j ≡ at after d)
              old ne =
                  let last = was.by d (rw (latest.elsewhere d ne) at h) in
                  (last.0, had_newer last.1, others last.0 (had_apart begins last.1) ∙ last.2, last.3 ∙ sym (latest.elsewhere d ne))
