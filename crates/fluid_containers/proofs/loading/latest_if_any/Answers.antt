use Rattle.fluid_containers.proofs.Loads.{picks_none, picks_last}
use Rattle.fluid_containers.proofs.loading.latest_if_any.Goals as goal

pub returns-then-is_empty : goal.returns-then-is_empty
returns-then-is_empty g c = λ limits d of. picks_none limits c.args.lane.now d of c.acks.result.now c.is_empty.result c.acks.ensures c.is_empty.ensures c.if-is_empty.true

pub returns-else-is_empty : goal.returns-else-is_empty
returns-else-is_empty g c = λ limits d of. picks_last limits c.args.lane.now d of c.acks.result.now c.is_empty.result c.acks.ensures c.is_empty.ensures c.if-is_empty.false
