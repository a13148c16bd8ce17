use Rattle.fluid_holding.proofs.Caught.{takes_in_as_defined}
use Rattle.fluid_holding.proofs.laws.containers_catch_up.Goals as goal

pub returns : goal.returns
returns c = takes_in_as_defined c.acks_are_summary_acks.ensures c.orders_are_answered_in_turn.ensures c.messages_are_replayed.ensures c.replay_goes_on.ensures
