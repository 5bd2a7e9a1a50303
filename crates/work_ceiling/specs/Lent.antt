-- Lent columns with a price list. Assumes nothing.
use Rattle.std.specs.Prelude.{List, ℕ, length}
use Rattle.base_columns.specs.declared.Columns.{Columns}
use Rattle.work_ceiling.specs.PricedLine.{PricedLine}

abbrev pub PricedColumns : Columns → List ℕ → Type 0
PricedColumns c prices = PricedLine (length c.limits.now) (length c.a.now) c.limits.now c.a.now c.b.now c.profit.now prices
