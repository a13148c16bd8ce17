use Rattle.fluid_holding.proofs.Begun.{loads_as_defined}
use Rattle.fluid_holding.proofs.laws.containers_load.Goals as goal

pub returns : goal.returns
returns c = loads_as_defined c.orders_are_answered_in_turn.ensures c.messages_are_replayed.ensures c.containers.ensures.nothing_taken
