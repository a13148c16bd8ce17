use Rattle.fluid_store.proofs.Stays.{complete_still}
use Rattle.fluid_store.proofs.laws.what_is_complete_stays_complete.Goals as goal

pub returns : goal.returns
returns c = λ old new trees id keeps h. complete_still old new keeps trees id h
