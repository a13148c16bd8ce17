use Rattle.fluid_outbox.proofs.Law.{each_once}
use Rattle.fluid_outbox.proofs.laws.each_once.Goals as goal

pub returns : goal.returns
returns c = each_once
