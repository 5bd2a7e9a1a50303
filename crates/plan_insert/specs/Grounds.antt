-- The ground of a search, as the code has it, for the laws of flow. Assumes nothing.
use Rattle.law_flow.specs.Searching as flow
use Rattle.plan_insert.specs.State.{ground_in}
use Rattle.plan_insert.specs.declared.ground.Ground.{Ground}

abbrev pub ground_of : Ground → flow.Ground
ground_of g = ground_in g.row.now.cells g.t g.row.now.lo g.row.now.hi g.row.now.cost g.kept.now g.room.now g.dist.now
