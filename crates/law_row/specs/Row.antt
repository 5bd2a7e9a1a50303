-- A row: cells 0 to L − 1, each with a limit, and candidates, each an interval of cells with a profit. Every planning question of 01 is
-- one question on a row: keep a set so that no cell is in more kept intervals than its limit, with the greatest sum of profits.
-- What is proved of rows holds for any number of cells; the programs keep it to at most 127. Assumes nothing.
use Rattle.std.specs.Prelude.{Bool, true, false, ◌&&◌, ◌||◌, ◌≡◌, ℕ, ◌+◌, ◌*◌, ◌-◌, ◌≤◌, ◌<◌, ltb, eqb}
use Rattle.base_sums.specs.Between.{is_between}
use Rattle.base_sums.specs.Each.{some}
use Rattle.base_sums.specs.Sums.{Σ, when, bit}

pub record Row : Type 0 where
  pub cells : ℕ
  pub limit : ℕ → ℕ
  pub count : ℕ
  pub lo : ℕ → ℕ
  pub hi : ℕ → ℕ
  pub profit : ℕ → ℕ

-- the first t candidates are real intervals of the row
pub record Proper (row : Row) (t : ℕ) : Type 0 where
  pub some_cell : (i : ℕ) → i < t → row.lo i < row.hi i
  pub in_row : (i : ℕ) → i < t → row.hi i ≤ row.cells

-- candidate i is over cell j
unfoldable pub covers : Row → ℕ → ℕ → Bool
covers row i j = is_between (row.lo i) (row.hi i) j

-- how many of the candidates that x keeps are over cell j, and what they earn together
unfoldable pub load : Row → (ℕ → Bool) → ℕ → ℕ
load row x j = Σ row.count (λ i. bit (x i && covers row i j))

unfoldable pub worth : Row → (ℕ → Bool) → ℕ
worth row x = Σ row.count (λ i. when (x i) (row.profit i))

-- x keeps no cell over its limit
pub record WithinLimits (row : Row) (x : ℕ → Bool) : Type 0 where
  pub holds : (j : ℕ) → j < row.cells → load row x j ≤ row.limit j

-- the prices y of the cells that candidate i is over, and the ceiling of y
unfoldable pub fare : Row → (ℕ → ℕ) → ℕ → ℕ
fare row y i = Σ row.cells (λ j. when (covers row i j) (y j))

unfoldable pub ceiling : Row → (ℕ → ℕ) → ℕ
ceiling row y = Σ row.cells (λ j. row.limit j * y j) + Σ row.count (λ i. row.profit i - fare row y i)

-- the certificate: a cell with a price is full, what is kept is worth its prices, what is dropped is not worth more
pub record Tight (row : Row) (x : ℕ → Bool) (y : ℕ → ℕ) : Type 0 where
  pub full : (j : ℕ) → j < row.cells → 0 < y j → load row x j ≡ row.limit j
  pub paid : (i : ℕ) → i < row.count → x i ≡ true → fare row y i ≤ row.profit i
  pub dropped : (i : ℕ) → i < row.count → x i ≡ false → row.profit i ≤ fare row y i

-- ---- channels

-- j comes before i: by the first cell, then by number
unfoldable pub before : Row → ℕ → ℕ → Bool
before row j i = ltb (row.lo j) (row.lo i) || (eqb (row.lo j) (row.lo i) && ltb j i)

-- some cell is under both i and j
unfoldable pub meet : Row → ℕ → ℕ → Bool
meet row i j = some row.cells (λ c. covers row i c && covers row j c)

-- channel c is held by a kept one that comes before i and meets it
unfoldable pub held_before : Row → (ℕ → Bool) → (ℕ → ℕ) → ℕ → ℕ → Bool
held_before row x channel i c = some row.count (λ j. x j && (before row j i && (meet row j i && eqb (channel j) c)))
