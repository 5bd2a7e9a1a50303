-- Rows that agree on what they are made of have the same loads, worths, certificates and channels, for kept sets that agree and prices that
-- agree: every notion of a row looks at candidates below its count and cells below their number only, and is a sum or a test over these.
-- Assumes nothing.
use Rattle.std.specs.Prelude.{◌≡◌, refl, Bool, true, ℕ, ◌<◌}
use Rattle.std.proofs.Math.Path.{sym, ap, ap₂}
use Rattle.std.proofs.Common.{◌∙◌}
use Rattle.std.proofs.Math.Bool.{◌&&◌}
use native.Mathlib.Omega.{arith}
use Rattle.std.proofs.Math.Dec.{eqb}
use Rattle.base_sums.specs.Each.{some_ext}
use Rattle.base_sums.specs.Sums.{when, bit, Σ-ext}
use Rattle.base_sums.specs.Tests.{when_so}
use Rattle.base_sums.specs.Lowest.{lowest_ext}
use Rattle.law_row.specs.Row.{Row, covers, load, fare, WithinLimits, Tight, before, meet, held_before}
use Rattle.law_row.specs.Channels.{Ruled}

-- the same intervals on the same number of cells
pub record SameIntervals (row row' : Row) : Type 0 where
  pub cells : row.cells ≡ row'.cells
  pub count : row.count ≡ row'.count
  pub lo : (i : ℕ) → i < row.count → row.lo i ≡ row'.lo i
  pub hi : (i : ℕ) → i < row.count → row.hi i ≡ row'.hi i

pub itself : (row : Row) → SameIntervals row row
itself row = record { cells = refl; count = refl; lo = λ i l. refl; hi = λ i l. refl }

-- and the same limits and profits
pub record Same (row row' : Row) : Type 0 where
  pub intervals : SameIntervals row row'
  pub limit : (j : ℕ) → j < row.cells → row.limit j ≡ row'.limit j
  pub profit : (i : ℕ) → i < row.count → row.profit i ≡ row'.profit i

-- x and x' keep the same of the first n
abbrev pub SameKept : ℕ → (ℕ → Bool) → (ℕ → Bool) → Type 0
SameKept n x x' = (i : ℕ) → i < n → x i ≡ x' i

-- ---- what looks at the intervals

module _ {row row' : Row} (s : SameIntervals row row') where
  covers_same : (i j : ℕ) → i < row.count → covers row i j ≡ covers row' i j
  unfolding covers
  covers_same i j l = rw (s.lo i l, s.hi i l)

  before_same : (j i : ℕ) → j < row.count → i < row.count → before row j i ≡ before row' j i
  unfolding before
  before_same j i lj li = rw (s.lo j lj, s.lo i li)

  meet_same : (i j : ℕ) → i < row.count → j < row.count → meet row i j ≡ meet row' i j
  unfolding meet
  meet_same i j li lj = some_ext row.cells _ _ (λ c l. ap₂ ◌&&◌ (covers_same i c li) (covers_same j c lj)) ∙ rw s.cells

  module _ {x x' : ℕ → Bool} (sets : SameKept row.count x x') where
    pub load_same : (j : ℕ) → load row x j ≡ load row' x' j
    unfolding load
    load_same j = Σ-ext row.count _ _ (λ i l. ap₂ (λ (t u : Bool). bit (t && u)) (sets i l) (covers_same i j l)) ∙ rw s.count

    -- the rule looks at no more than the intervals, the kept set and the channels of what is kept
    pub ruled_same : (k : ℕ) {f g : ℕ → ℕ} → ((i : ℕ) → i < row.count → x i ≡ true → f i ≡ g i) → Ruled row k x f → Ruled row' k x' g
    unfolding held_before
    ruled_same k {f} {g} channels r = record {
      is = λ i h e.
          let l : i < row.count = omega arith in
          let kept = sets i l ∙ e in
          sym (channels i l kept) ∙ r.is i l kept ∙ lowest_ext k _ _ (λ c from upto. held i c l);
    }
      where
        held : (i c : ℕ) → i < row.count → held_before row x f i c ≡ held_before row' x' g i c
        held i c li =
            some_ext row.count _ _
            (λ j l.
            when_so (x j) (λ e. rw (before_same j i l li, meet_same j i l li, channels j l e))
            ∙ ap (λ (t : Bool). t && (before row' j i && (meet row' j i && eqb (g j) c))) (sets j l))
            ∙ rw s.count

-- ---- what looks at limits and profits too

module _ {row row' : Row} (s : Same row row') {x x' : ℕ → Bool} (sets : SameKept row.count x x') where
  pub within_same : WithinLimits row x → WithinLimits row' x'
  within_same w = record {
    holds = λ j h.
        let l : j < row.cells = omega arith in
        omega (arith, w.holds j l, load_same s.intervals sets j, s.limit j l);
  }

  module _ {y y' : ℕ → ℕ} (prices : (j : ℕ) → j < row.cells → y j ≡ y' j) where
    fare_same : (i : ℕ) → i < row.count → fare row y i ≡ fare row' y' i
    unfolding fare
    fare_same i l = Σ-ext row.cells _ _ (λ j h. ap₂ when (covers_same s.intervals i j l) (prices j h)) ∙ rw s.intervals.cells

    pub tight_same : Tight row x y → Tight row' x' y'
    tight_same t = record {
      full = λ j h priced.
          let l : j < row.cells = omega arith in
          omega (arith, t.full j l (omega (arith, prices j l)), load_same s.intervals sets j, s.limit j l);
      paid = λ i h kept.
          let l : i < row.count = omega arith in
          omega (arith, t.paid i l (sets i l ∙ kept), fare_same i l, s.profit i l);
      dropped = λ i h left.
          let l : i < row.count = omega arith in
          omega (arith, t.dropped i l (sets i l ∙ left), fare_same i l, s.profit i l);
    }
