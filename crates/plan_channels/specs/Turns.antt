-- The turn of a kept one. A channel whose latest connection reaches past its first node is exactly one that a kept one before it holds which meets it:
-- having a channel it comes before, and with a first cell no later, it meets if it reaches past that node. So the lowest free one is the rule's. Assumes nothing.
use Rattle.std.specs.Prelude.{Bool, true, List, ◌≡◌, refl, ℕ, ◌+◌, ◌≤◌, ◌<◌, set}
use Rattle.std.proofs.Common.{⊎_elim, sym, ◌∙◌, arith, ltb-true, ltb-false, lt-ltb, length-set}
use Rattle.base_sums.specs.At.{Stored, store}
use Rattle.base_sums.specs.Each.{some_of, both, same_test, less_or_not, same_or_not}
use Rattle.base_sums.specs.Lowest.{lowest_free, lowest_free_lem, lowest_ext}
use Rattle.law_row.specs.Row.{Row, before, meet, held_before}
use Rattle.law_row.specs.Channels.{Holder, held_by, held_of, Agree, rule_ext}
use Rattle.law_row.specs.Meets.{covers_of, meet_begins, before_cases, before_lo, before_number}
use Rattle.plan_channels.specs.HandOut.{at, flag, row_on}
use Rattle.plan_channels.specs.Had.{turn_of, Had, had_newer, had_older, had_own}
use Rattle.plan_channels.specs.Latest.{held_past, Latest, latest_more}
use Rattle.plan_channels.specs.Stages.{rule, Stage, rule_is, rule_upto}

-- ---- number i is kept and begins at node v, whose turn it is

module _
    {cells count k : ℕ} {lo hi : List ℕ} {kept : List Bool} {channel ends : List ℕ} {v i : ℕ}
    (s : Stage cells count k lo hi kept channel ends v i) (l : i < count) (e : flag kept i ≡ true) (begins : at lo i ≡ v)
  where
    abbrev row : Row
    row = row_on cells count lo hi

    -- "before" is the order of the turns
    before_had : (j : ℕ) → j < count → flag kept j ≡ true → before row j i ≡ true → Had count lo kept v i j
    before_had j lj ej b = record { low = lj; real = ej; early = early }
      where
        early : turn_of (at lo j) j < turn_of v i
        early = ⊎_elim (λ (h : at lo j < at lo i). omega (arith, s.can.count_upto)) (λ (h : (at lo j ≡ at lo i) × (j < i)). omega arith) (before_cases row j i b)

    had_before : (j : ℕ) → Had count lo kept v i j → before row j i ≡ true
    had_before j had =
        ⊎_elim (λ h. before_lo row j i h)
        (λ h. before_number row j i (omega (arith, had.early, had.low, s.can.count_upto)) (omega (arith, had.early, had.low, s.can.count_upto)))
        (less_or_not (at lo j) (at lo i))

    -- the latest connection on c came before; if it reaches past v, it meets i in i's first cell
    past_before : (c : ℕ) → v < at ends c → held_before row (flag kept) (at channel) i c ≡ true
    unfolding meet
    past_before c h = held_of row (flag kept) (at channel) i c j (record { below = had.low; kept = had.real; earlier = had_before j had; meets = meets; has = last.2 })
      where
        last : (j : ℕ) × Had count lo kept v i j × (at channel j ≡ c) × (at hi j ≡ at ends c)
        last = s.latest.by c (omega arith)

        j : ℕ
        j = last.0

        had : Had count lo kept v i j
        had = last.1

        meets : meet row j i ≡ true
        meets =
            some_of cells _ v (omega (arith, s.can.proper.some_cell i l, s.can.proper.in_row i l))
            (both _ _ (covers_of row j v (omega (arith, had.early, had.low, s.can.count_upto)) (omega (arith, last.3)))
            (covers_of row i v (omega arith) (omega (arith, s.can.proper.some_cell i l))))

    -- one on c that meets i reaches past v, and the latest on c ends no earlier
    before_past : (c j : ℕ) → Holder row (flag kept) (at channel) i c j → v < at ends c
    before_past c j h =
        let upto : at hi j ≤ at ends c = rw h.has at (s.latest.upto j (before_had j h.below h.kept h.earlier)) in
        omega (arith, meet_begins row j i h.meets)

    held_same : (c : ℕ) → held_past ends v c ≡ held_before row (flag kept) (at channel) i c
    held_same c =
        same_test (λ h. past_before c (ltb-true _ _ h))
        (λ h. let w = held_by row (flag kept) (at channel) i c h in lt-ltb _ _ (before_past c w.0 w.1))

    takes : lowest_free k (held_past ends v) ≡ rule cells count k lo hi kept i
    takes =
        let agree : Agree row (flag kept) (at channel) (rule cells count k lo hi kept) i = record { at = λ j lj ej b. s.given j (before_had j lj ej b) } in
        lowest_ext k _ _ (λ c from upto. held_same c) ∙ rule_ext row (flag kept) k (at channel) _ i agree ∙ sym ((rule_is s.can).is i l e)

    -- so one of 1 to k is always left
    pub turn_enough : lowest_free k (held_past ends v) ≤ k
    turn_enough = rw takes (rule_upto s.can i l e)

    pub turn_gives :
        Stage cells count k lo hi kept (set channel i (lowest_free k (held_past ends v))) (set ends (lowest_free k (held_past ends v)) (at hi i)) v (i + 1)
    turn_gives = record { can = s.can; long = length-set channel i taken ∙ s.long; given = given; only = only; latest = latest }
      where
        taken : ℕ
        taken = lowest_free k (held_past ends v)

        now : Stored 0 channel i taken (set channel i taken)
        now = store 0 channel i taken (omega (arith, s.long, s.can.count_upto))

        few : count ≤ 256
        few = s.can.count_upto

        given : (j : ℕ) → Had count lo kept v (i + 1) j → at (set channel i taken) j ≡ rule cells count k lo hi kept j
        given j h = ⊎_elim (λ q. now.here j q ∙ rw q takes) (λ ne. now.elsewhere j ne ∙ s.given j (had_older few l ne h)) (same_or_not j i)

        only : (j : ℕ) → j < count → 0 < at (set channel i taken) j → Had count lo kept v (i + 1) j
        only j lj h = ⊎_elim (λ q. rw q (had_own l e begins)) (λ ne. had_newer (s.only j lj (rw (now.elsewhere j ne) at h))) (same_or_not j i)

        -- what ends by v ends before i does
        latest : Latest 128 count lo hi kept (set channel i taken) (set ends taken (at hi i)) v (i + 1)
        latest =
            let upto = turn_enough in
            let ended : at ends taken ≤ v = ltb-false _ _ (lowest_free_lem k (held_past ends v) upto) in
            latest_more s.latest few l e begins (omega (arith, s.can.k_upto)) (omega (arith, s.can.proper.some_cell i l)) (now.here i refl) now.elsewhere
