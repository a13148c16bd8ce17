use Rattle.fluid_rules.proofs.Answered.{order-answered_in_turn}
use Rattle.fluid_rules.proofs.laws.orders_are_answered_in_turn.Goals as goal

pub returns : goal.returns
returns c = order-answered_in_turn c.ids_are_read_back.ensures
