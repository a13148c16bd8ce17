use Rattle.fluid_loader.proofs.Picking.{picked_within}
use Rattle.fluid_loader.proofs.laws.picked_numbers_are_within.Goals as goal

pub returns : goal.returns
returns c = picked_within
