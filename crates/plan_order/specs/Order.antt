-- An order of the first `count` numbers, and the place of each in it. Assumes nothing.
use Rattle.std.proofs.Common.{ap, ◌∙◌, arith}
use Rattle.std.specs.Prelude.{List, ℕ}
use Rattle.base_sums.specs.At.{at}
use Rattle.base_sums.specs.Filled.{Filled}
use Rattle.base_sums.specs.Permuted.{Back}

-- `place` leads back from wherever `order` leads, and the other way round
pub record Order (count : ℕ) (order place : List ℕ) : Type 0 where
  pub there : Back count count (at order) (at place)
  pub back : Back count count (at place) (at order)

-- by number

module _ {count : ℕ} {order place : List ℕ} (o : Filled (λ i. i) count order) (p : Filled (λ i. i) count place) where
  alike : Back count count (at order) (at place)
  alike = record {
    below = λ i l. omega (arith, o.is i l);
    leads = λ i l. ap (at place) (o.is i l) ∙ p.is i l;
  }

pub numbered : {count : ℕ} {order place : List ℕ} → Filled (λ i. i) count order → Filled (λ i. i) count place → Order count order place
numbered o p = record { there = alike o p; back = alike p o }
