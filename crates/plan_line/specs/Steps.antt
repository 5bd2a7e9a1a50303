-- What the functions of this crate promise each other: the entries, and the sums over what is kept. Assumes nothing.
use Rattle.std.specs.Prelude.{Bool, List, ℕ}
use Rattle.base_sums.specs.At.{flag}
use Rattle.base_sums.specs.Sums.{Σ}
use Rattle.base_sums.specs.Filled.{Filled}
use Rattle.paper_book.specs.Columns.{at}
use Rattle.paper_rules.specs.Ways.{way_from}
use Rattle.law_line.specs.Entries.{entered}
use Rattle.plan_line.specs.Totals.{over_kept}

-- the profits of the kept ones, and how many there are
abbrev pub sum_of : ℕ → List Bool → List ℕ → ℕ
sum_of n kept profits = Σ n (over_kept kept (at profits))

abbrev pub number_of : ℕ → List Bool → ℕ
number_of n kept = Σ n (over_kept kept (λ i. 1))

-- the way of request i, from a to b
unfoldable pub way_in : List ℕ → List ℕ → ℕ → ℕ
way_in a b i = way_from (at a i) (at b i)

-- the entry of each request: 0 where it is not kept, else way times 256 plus channel
abbrev pub entries_of : List ℕ → List ℕ → List Bool → List ℕ → ℕ → ℕ
entries_of a b kept channel = entered (flag kept) (way_in a b) (at channel)

pub record Entered (count : ℕ) (a b : List ℕ) (kept : List Bool) (channel entries : List ℕ) : Type 0 where
  pub entry : Filled (entries_of a b kept channel) count entries
