use Rattle.fluid_store.proofs.Stays.{stands_still}
use Rattle.fluid_store.proofs.laws.what_stands_goes_on_standing.Goals as goal

pub returns : goal.returns
returns c = λ old new id node keeps h. stands_still old new keeps node id h
