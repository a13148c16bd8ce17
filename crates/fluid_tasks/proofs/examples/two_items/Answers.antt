use Rattle.fluid_tasks.proofs.Computed.{two_items_so}
use Rattle.fluid_tasks.proofs.examples.two_items.Goals as goal

pub returns : goal.returns
returns c = two_items_so
