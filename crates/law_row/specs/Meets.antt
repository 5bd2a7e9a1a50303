-- What the tests on a row's candidates say: which cells one is over, that two meet, and which of two comes first. One that comes before
-- another and meets it is over its first cell; and "before" is the order of a number, the rank. Assumes nothing.
use Rattle.std.specs.Prelude.{true, ◌&&◌, ◌≡◌, ◌⊎◌, ℕ, ◌+◌, ◌*◌, ◌≤◌, ◌<◌, ltb, eqb}
use Rattle.std.proofs.Math.Bool.{and_comm}
use Rattle.std.proofs.Common.{inl, inr, ⊎_elim, mul-le-mul_right, arith, ltb-true, lt-ltb, eqb-true, eq-eqb}
use Rattle.base_sums.specs.Between.{is_between_lem, between_from, between_upto}
use Rattle.base_sums.specs.Each.{some_at, some_ext, both, left_of, right_of, either, or_left, or_right, less_or_not}
use Rattle.law_row.specs.Row.{Row, Proper, covers, before, meet}

-- ---- over a cell

-- a real interval begins at a node of the row
pub first_in : {row : Row} {t : ℕ} → Proper row t → (i : ℕ) → i < t → row.lo i ≤ row.cells
first_in p i l = omega (arith, p.some_cell i l, p.in_row i l)

pub covers_of : (row : Row) (i c : ℕ) → row.lo i ≤ c → c < row.hi i → covers row i c ≡ true
unfolding covers
covers_of row i c = is_between_lem (row.lo i) (row.hi i) c

pub covers_from : (row : Row) (i c : ℕ) → covers row i c ≡ true → row.lo i ≤ c
unfolding covers
covers_from row i c = between_from (row.lo i) (row.hi i) c

pub covers_upto : (row : Row) (i c : ℕ) → covers row i c ≡ true → c < row.hi i
unfolding covers
covers_upto row i c = between_upto (row.lo i) (row.hi i) c

-- ---- two that meet

pub meet_sym : (row : Row) (i j : ℕ) → meet row i j ≡ meet row j i
unfolding meet
meet_sym row i j = some_ext row.cells _ _ (λ c l. and_comm (covers row i c) (covers row j c))

-- each begins before the other ends
pub meet_begins : (row : Row) (j i : ℕ) → meet row j i ≡ true → row.lo i < row.hi j
unfolding meet
meet_begins row j i e = begins (some_at row.cells _ e)
  where
    begins : (c : ℕ) × (c < row.cells) × ((covers row j c && covers row i c) ≡ true) → row.lo i < row.hi j
    begins w = omega (arith, covers_upto row j w.0 (left_of _ _ w.2), covers_from row i w.0 (right_of (covers row j w.0) _ w.2))

-- ---- which comes first

pub before_cases : (row : Row) (j i : ℕ) → before row j i ≡ true → (row.lo j < row.lo i) ⊎ ((row.lo j ≡ row.lo i) × (j < i))
unfolding before
before_cases row j i e =
    ⊎_elim (λ l. inl (ltb-true _ _ l)) (λ b. inr (eqb-true _ _ (left_of _ _ b), ltb-true _ _ (right_of (eqb (row.lo j) (row.lo i)) _ b)))
    (either (ltb (row.lo j) (row.lo i)) _ e)

pub before_lo : (row : Row) (j i : ℕ) → row.lo j < row.lo i → before row j i ≡ true
unfolding before
before_lo row j i l = or_left _ _ (lt-ltb _ _ l)

pub before_number : (row : Row) (j i : ℕ) → row.lo j ≡ row.lo i → j < i → before row j i ≡ true
unfolding before
before_number row j i e l = or_right (ltb (row.lo j) (row.lo i)) _ (both _ _ (eq-eqb _ _ e) (lt-ltb _ _ l))

pub before_begins : (row : Row) (j i : ℕ) → before row j i ≡ true → row.lo j ≤ row.lo i
before_begins row j i e = ⊎_elim (λ l. omega arith) (λ b. omega arith) (before_cases row j i e)

-- of two, one comes first
pub before_or : (row : Row) (i j : ℕ) → (i ≡ j → ⊥) → (before row i j ≡ true) ⊎ (before row j i ≡ true)
before_or row i j ne =
    ⊎_elim (λ l. inl (before_lo row i j l))
    (λ l. ⊎_elim (λ h. inr (before_lo row j i h)) (λ h. tie (omega arith)) (less_or_not (row.lo j) (row.lo i)))
    (less_or_not (row.lo i) (row.lo j))
  where
    tie : row.lo i ≡ row.lo j → (before row i j ≡ true) ⊎ (before row j i ≡ true)
    tie e = ⊎_elim (λ l. inl (before_number row i j e l)) (λ l. inr (before_number row j i (omega arith) (omega arith))) (less_or_not i j)

-- an earlier one that meets i is over i's first cell
pub before_covers : (row : Row) (j i : ℕ) → before row j i ≡ true → meet row j i ≡ true → covers row j (row.lo i) ≡ true
before_covers row j i b m = covers_of row j (row.lo i) (before_begins row j i b) (meet_begins row j i m)

-- the place of a candidate in the order; it rises from an earlier one to a later one, so it serves to count down
pub rank : Row → ℕ → ℕ
rank row i = row.lo i * row.count + i

pub before_rank : (row : Row) (j i : ℕ) → j < row.count → before row j i ≡ true → rank row j < rank row i
unfolding rank
before_rank row j i h e = ⊎_elim (λ l. omega (arith, mul-le-mul_right row.count l)) (λ b. rw b.0 (omega arith)) (before_cases row j i e)
