use Rattle.fluid_acts.proofs.Following.{adds_as_defined}
use Rattle.fluid_acts.proofs.laws.acts_add_as_defined.Goals as goal

pub returns : goal.returns
returns c = adds_as_defined c.lanes_say_their_ledgers.ensures.says
