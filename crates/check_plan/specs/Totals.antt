-- The earnings of a plan, by its entries and the column of profits: what they are asked of, and what each request adds. Assumes nothing.
use Rattle.std.specs.Prelude.{List, ℕ, ◌*◌, ◌≤◌, length}
use Rattle.base_sums.specs.At.{NumbersUpto}
use Rattle.base_sums.specs.Sums.{when}
use Rattle.paper_book.specs.Columns.{at}
use Rattle.paper_rules.specs.Plans.{Plan, kept}

pub record CanEarn (count : ℕ) (profits entries : List ℕ) : Type 0 where
  pub profits_in : NumbersUpto 1000000 count profits
  pub enough : 2 * count ≤ length entries

-- what request i earns
abbrev pub earning : List ℕ → Plan → ℕ → ℕ
earning profits plan i = when (kept plan i) (at profits i)
