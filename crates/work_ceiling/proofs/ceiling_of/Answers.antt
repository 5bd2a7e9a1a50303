-- `work_ceiling::ceiling_of` meets its contract: the sum over the spans and the sum over the requests are the two parts of the ceiling. Assumes nothing.
use native.Mathlib.Omega.{arith}
use Rattle.work_ceiling.specs.Sums.{payable, can_sum, ceiling_is, sum_fits}
use Rattle.work_ceiling.proofs.ceiling_of.Goals as goal

pub rent-rented-requires : goal.rent-rented-requires
rent-rented-requires c = payable c.requires

pub surplus-requires : goal.surplus-requires
surplus-requires c = can_sum c.requires c.rent-rented.ensures

pub overflow_add-result : goal.overflow_add-result
overflow_add-result c = omega (arith, sum_fits c.requires c.rent-rented.ensures c.surplus.ensures)

pub returns : goal.returns
returns c w = ceiling_is w c.rent-rented.ensures c.surplus.ensures
