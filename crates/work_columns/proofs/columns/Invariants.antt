-- `work_columns::columns` meets its contract: each turn copies request i out of the lent list and stores its numbers, so that the columns have the
-- first i requests. Assumes nothing.
use Rattle.work_columns.specs.Columned.{Columned}
use Rattle.work_columns.proofs.columns.Given as goal

abbrev pub invariant-loop-i : goal.invariant-loop-i
invariant-loop-i l = Columned l.requests l.i l.cols
