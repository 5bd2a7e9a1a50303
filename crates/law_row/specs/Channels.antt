-- Channels by the lowest-free rule. A kept candidate's channel is at most the load at its first cell, since every lower channel is held
-- by an earlier one that is over that cell too: so the rule always finds a channel, and no two that meet share one. Assumes nothing.
use Rattle.std.specs.Prelude.{Bool, true, ◌&&◌, ◌≡◌}
use Rattle.std.proofs.Math.Path.{refl, ap}
use Rattle.std.proofs.Common.{sym, ◌∙◌, ⊎_elim, eq-or-lt_of_le, arith}
use Prim.Native.Nat.{ℕ, zero, suc, ◌≤◌, ◌<◌}
use borrow.Author.Tests.{eqb-true, eq-eqb}
use Rattle.std.proofs.Math.Dec.{eqb}
use Rattle.base_sums.specs.Each.{some_at, some_of, some_ext, both, left_of, right_of, of_yes}
use Rattle.base_sums.specs.Tests.{when_so}
use Rattle.base_sums.specs.Lowest.{lowest_free, lowest_from, lowest_free_lem, lowest_held, lowest_ext}
use Rattle.base_sums.specs.Pigeons.{holders}
use Rattle.law_row.specs.Row.{Row, Proper, covers, load, before, meet, held_before}
use Rattle.law_row.specs.Meets.{covers_of, meet_sym, before_or, before_covers, rank, before_rank}

-- the channels follow the rule: each kept candidate has the lowest channel that no earlier kept one that meets it holds
pub record Ruled (row : Row) (k : ℕ) (x : ℕ → Bool) (channel : ℕ → ℕ) : Type 0 where
  pub is : (i : ℕ) → i < row.count → x i ≡ true → channel i ≡ lowest_free k (held_before row x channel i)

-- ---- what is held

-- j is a kept one that comes before i, meets it and has channel c
pub record Holder (row : Row) (x : ℕ → Bool) (channel : ℕ → ℕ) (i c j : ℕ) : Type 0 where
  pub below : j < row.count
  pub kept : x j ≡ true
  pub earlier : before row j i ≡ true
  pub meets : meet row j i ≡ true
  pub has : channel j ≡ c

module _ (row : Row) (x : ℕ → Bool) where
  pub held_by : (channel : ℕ → ℕ) (i c : ℕ) → held_before row x channel i c ≡ true → (j : ℕ) × Holder row x channel i c j
  unfolding held_before
  held_by channel i c e = parts (some_at row.count _ e)
    where
      parts : (j : ℕ) × (j < row.count) × ((x j && (before row j i && (meet row j i && eqb (channel j) c))) ≡ true) → (j : ℕ) × Holder row x channel i c j
      parts w =
          let j = w.0 in
          let b = right_of (x j) _ w.2 in
          let m = right_of (before row j i) _ b in
          (j, record { below = w.1; kept = left_of _ _ w.2; earlier = left_of _ _ b; meets = left_of _ _ m; has = eqb-true _ _ (right_of (meet row j i) _ m) })

  pub held_of : (channel : ℕ → ℕ) (i c j : ℕ) → Holder row x channel i c j → held_before row x channel i c ≡ true
  unfolding held_before
  held_of channel i c j h = some_of row.count _ j h.below (both _ _ h.kept (both _ _ h.earlier (both _ _ h.meets (eq-eqb _ _ h.has))))

  -- f and g give the same channels to the kept ones before i
  pub record Agree (f g : ℕ → ℕ) (i : ℕ) : Type 0 where
    pub at : (j : ℕ) → j < row.count → x j ≡ true → before row j i ≡ true → f j ≡ g j

  -- then the same channels are held before i, and the rule gives i the same channel
  held_ext : (f g : ℕ → ℕ) (i c : ℕ) → Agree f g i → held_before row x f i c ≡ held_before row x g i c
  unfolding held_before
  held_ext f g i c a =
      some_ext row.count _ _ (λ j l. when_so (x j) (λ e. when_so (before row j i) (λ b. ap (λ (d : ℕ). meet row j i && eqb d c) (a.at j l e b))))

  pub rule_ext : (k : ℕ) (f g : ℕ → ℕ) (i : ℕ) → Agree f g i → lowest_free k (held_before row x f i) ≡ lowest_free k (held_before row x g i)
  rule_ext k f g i a = lowest_ext k _ _ (λ c from upto. held_ext f g i c a)

-- ---- a channel is at most the load at the first cell

-- a kept one over the cell has channel c
abbrev Seen : Row → (ℕ → Bool) → (ℕ → ℕ) → ℕ → ℕ → Type 0
Seen row x channel cell c = (j : ℕ) × (j < row.count) × ((x j && covers row j cell) ≡ true) × (channel j ≡ c)

module _ (row : Row) (k : ℕ) (x : ℕ → Bool) (channel : ℕ → ℕ) (ruled : Ruled row k x channel) where
  pub from_one : (i : ℕ) → i < row.count → x i ≡ true → 1 ≤ channel i
  from_one i l e = rw (ruled.is i l e) (lowest_from k _)

  -- at i's first cell every channel up to i's own is seen: i's own there, the lower ones at those that hold them
  seen : (i : ℕ) → i < row.count → x i ≡ true → row.lo i < row.hi i → (c : ℕ) → 1 ≤ c → c ≤ channel i → Seen row x channel (row.lo i) c
  seen i l e some c from upto = ⊎_elim own (λ h. lower (held_by row x channel i c (lowest_held k _ c from (rw (ruled.is i l e) at h)))) (eq-or-lt_of_le upto)
    where
      own : c ≡ channel i → Seen row x channel (row.lo i) c
      own q = (i, l, both _ _ e (covers_of row i (row.lo i) (omega arith) some), sym q)

      lower : (j : ℕ) × Holder row x channel i c j → Seen row x channel (row.lo i) c
      lower w = let h = w.1 in (w.0, h.below, both _ _ h.kept (before_covers row w.0 i h.earlier h.meets), h.has)

  pub at_most_load : (i : ℕ) → i < row.count → x i ≡ true → row.lo i < row.hi i → channel i ≤ load row x (row.lo i)
  unfolding load
  at_most_load i l e some = holders row.count (channel i) _ channel (seen i l e some)

-- ---- where no cell is under more than k kept ones, the rule always finds one of 1 to k, and tells apart those that meet

module _
    (row : Row) (k : ℕ) (x : ℕ → Bool) (channel : ℕ → ℕ)
    (fits : (j : ℕ) → j < row.cells → load row x j ≤ k) (proper : Proper row row.count) (ruled : Ruled row k x channel)
  where
    pub found : (i : ℕ) → i < row.count → x i ≡ true → channel i ≤ k
    found i l e =
        let some : row.lo i < row.hi i = proper.some_cell i l in
        omega (arith, at_most_load row k x channel ruled i l e some, fits (row.lo i) (omega (arith, proper.in_row i l)))

    -- the later of two finds the earlier one's channel held, and its own free
    apart : (i j : ℕ) → i < row.count → j < row.count → x i ≡ true → x j ≡ true → before row i j ≡ true → meet row i j ≡ true → channel i ≡ channel j → ⊥
    apart i j li lj ei ej b m q =
        let is = ruled.is j lj ej in
        let free = lowest_free_lem k (held_before row x channel j) (rw is at (found j lj ej)) in
        of_yes (sym free ∙ held_of row x channel j _ i (record { below = li; kept = ei; earlier = b; meets = m; has = q ∙ is }))

    pub told_apart : (i j : ℕ) → i < row.count → j < row.count → x i ≡ true → x j ≡ true → (i ≡ j → ⊥) → meet row i j ≡ true → channel i ≡ channel j → ⊥
    told_apart i j li lj ei ej ne m q =
        ⊎_elim (λ b. apart i j li lj ei ej b m q) (λ b. apart j i lj li ej ei b (meet_sym row j i ∙ m) (sym q)) (before_or row i j ne)

-- ---- there is one such choice of channels

-- channels made in stages: each stage follows the rule over the one before it
record Staged (row : Row) (k : ℕ) (x : ℕ → Bool) (made : ℕ → ℕ → ℕ) : Type 0 where
  next : (n i : ℕ) → i < row.count → x i ≡ true → made (suc n) i ≡ lowest_free k (held_before row x (made n) i)

module _ (row : Row) (k : ℕ) (x : ℕ → Bool) where
  -- a stage beyond i's rank has settled i's channel, since all that come before i have a lower rank
  settled :
      (f g : ℕ → ℕ → ℕ) → Staged row k x f → Staged row k x g
      → (n m i : ℕ) → i < row.count → x i ≡ true → rank row i < n → rank row i < m → f n i ≡ g m i
  settled f g sf sg zero m i l e hn hm = absurd (omega arith)
  settled f g sf sg (suc n) zero i l e hn hm = absurd (omega arith)
  settled f g sf sg (suc n) (suc m) i l e hn hm =
      let agree : Agree row x (f n) (g m) i = record { at = λ j lj ej b. let lower = before_rank row j i lj b in settled f g sf sg n m j lj ej (omega arith) (omega arith) } in
      sf.next n i l e ∙ rule_ext row x k (f n) (g m) i agree ∙ sym (sg.next m i l e)

  stage : ℕ → ℕ → ℕ
  stage zero i = 0
  stage (suc n) i = lowest_free k (held_before row x (stage n) i)

  stages : Staged row k x stage
  unfolding stage
  stages = record { next = λ n i l e. refl }

  -- each takes its channel at the first stage beyond its rank
  pub ruled_exists : (channel : ℕ → ℕ) × Ruled row k x channel
  unfolding stage
  ruled_exists = (channel, record { is = λ i l e. rule_ext row x k (stage (rank row i)) channel i (agree i) })
    where
      channel : ℕ → ℕ
      channel i = stage (suc (rank row i)) i

      agree : (i : ℕ) → Agree row x (stage (rank row i)) channel i
      agree i = record { at = λ j l e b. settled stage stage stages stages (rank row i) (suc (rank row j)) j l e (before_rank row j i l b) (omega arith) }

  pub ruled_once : (f g : ℕ → ℕ) → Ruled row k x f → Ruled row k x g → (i : ℕ) → i < row.count → x i ≡ true → f i ≡ g i
  ruled_once f g rf rg i l e = settled (λ n. f) (λ n. g) (steady f rf) (steady g rg) (suc (rank row i)) (suc (rank row i)) i l e (omega arith) (omega arith)
    where
      -- channels that follow the rule are their own next stage
      steady : (h : ℕ → ℕ) → Ruled row k x h → Staged row k x (λ n. h)
      steady h r = record { next = λ n. r.is }
