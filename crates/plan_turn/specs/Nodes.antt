-- What turning a ring's columns along the line which a cut leaves asks and promises. Assumes nothing.
use Rattle.std.specs.Prelude.{List, ℕ, ◌+◌, ◌-◌, ◌≤◌, ◌<◌, take}
use Rattle.std.proofs.Common.{◌∙◌, get_or-take}
use Rattle.base_sums.specs.At.{NumbersBelow}
use Rattle.base_sums.specs.Filled.{Filled}
use Rattle.paper_book.specs.Columns.{at}
use Rattle.paper_rules.specs.Cuts.{steps, span_at}

-- a cut of a ring, and ends that are nodes of it
pub record Nodes (n j count : ℕ) (ends : List ℕ) : Type 0 where
  pub cut_in : j < n
  pub n_upto : n ≤ 64
  pub are_nodes : NumbersBelow n count ends

-- the ring's columns along the line which cut j leaves
pub record Turned (n j count : ℕ) (limits a b limit from to : List ℕ) : Type 0 where
  pub limits_turned : Filled (λ t. at limits (span_at n j t)) (n - 1) limit
  pub a_turned : Filled (λ i. steps n (j + 1) (at a i)) count from
  pub b_turned : Filled (λ i. steps n (j + 1) (at b i)) count to

-- the first places alone are turned as well
pub turned_part :
    {n j count : ℕ} {limits a b limit from to : List ℕ} → Turned n j count limits a b limit from to
    → Turned n j count limits a b (take (n - 1) limit) (take count from) (take count to)
turned_part {n} {count} {limit} {from} {to} was =
    record {
      limits_turned = record { is = λ t l. get_or-take (n - 1) limit t 0 l ∙ was.limits_turned.is t l };
      a_turned = record { is = λ i l. get_or-take count from i 0 l ∙ was.a_turned.is i l };
      b_turned = record { is = λ i l. get_or-take count to i 0 l ∙ was.b_turned.is i l };
    }
