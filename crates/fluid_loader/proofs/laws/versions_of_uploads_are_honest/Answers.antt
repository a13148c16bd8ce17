use Rattle.std.proofs.Common.{refl}
use Rattle.fluid_tree.specs.Names.{first_refused}
use Rattle.fluid_loader.proofs.laws.versions_of_uploads_are_honest.Goals as goal

pub returns : goal.returns
unfolding first_refused
returns c = λ held order summary app state app_size state_size app_stands state_stands here. (refl, (_, (here, (refl, (refl, (app_size, (app_stands, (refl, (refl, (state_size, (state_stands, tt)))))))))))
