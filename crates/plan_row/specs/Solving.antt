-- Requests laid as candidates are a row that can be planned: every one is over some cell of the row, since its ends differ and lie on it, and its
-- cost is minus its profit. Assumes nothing.
use Rattle.std.specs.Prelude.{List, ℕ, ℤ}
use Rattle.std.proofs.Common.{arith}
use Rattle.base_sums.specs.At.{at}
use Rattle.base_sums.specs.Filled.{Filled}
use Rattle.law_flow.specs.Balanced.{Proper}
use Rattle.plan_insert.specs.State.{bare, CanPlan}
use Rattle.plan_row.specs.Steps.{Candidates, CanSolve}

module _
    {cells count : ℕ} {limits a b profits lo hi : List ℕ} {cost : List ℤ}
    (can : CanSolve cells count limits a b profits) (laid : Candidates count a b profits lo hi cost)
  where
    pub real_intervals : Proper (bare cells lo hi cost) count
    real_intervals = record {
      some_cell = λ i l. omega (arith, laid.lower.is i l, laid.upper.is i l, can.ends_differ i l);
      in_row = λ i l. omega (arith, laid.upper.is i l, can.a_node i l, can.b_node i l);
    }

    pub can_plan : {free : List ℕ} → Filled (at limits) cells free → CanPlan cells count lo hi cost free
    can_plan f =
        record {
          cells_upto = omega (arith, can.cells_upto);
          count_upto = can.profits_in.few;
          proper = real_intervals;
          costs = record { not_above = laid.not_above; upto = λ i l. omega (arith, laid.profit i l, can.profits_in.upto i l) };
          limits = λ j l. omega (arith, f.is j l, can.limits_upto j l);
        }
