-- `work_ceiling::surplus` meets its contract: each turn adds what one request has above the prices it crosses. Assumes nothing.
use Rattle.base_sums.specs.Turns.{Running}
use Rattle.work_ceiling.specs.Surplus.{gain_at}
use Rattle.work_ceiling.proofs.surplus.Given as goal

abbrev pub invariant-loop-i : goal.invariant-loop-i
invariant-loop-i l = Running 1000000 (gain_at l.columns.a.now l.columns.b.now l.columns.profit.now l.toll) l.i l.sum
