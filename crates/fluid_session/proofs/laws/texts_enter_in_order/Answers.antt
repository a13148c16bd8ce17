use Rattle.fluid_session.proofs.Filling.{submits}
use Rattle.fluid_session.proofs.laws.texts_enter_in_order.Goals as goal

pub returns : goal.returns
returns c = submits
