use Rattle.fluid_quorum.proofs.Placed.{removed}
use Rattle.fluid_quorum.proofs.places.take_out.Goals as goal

pub returns-clause-taken : goal.returns-clause-taken
returns-clause-taken g c = removed c.args.places.now c.remove.new.self c.requires c.remove.ensures.ordered c.args.key.now c.remove.ensures.updates
