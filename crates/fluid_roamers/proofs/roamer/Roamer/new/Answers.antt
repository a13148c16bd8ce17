use Rattle.std.proofs.Common.{refl}
use Rattle.fluid_roamers.proofs.Keeping.{kept_none}
use Rattle.fluid_roamers.proofs.roamer.Roamer.new.Goals as goal

pub returns-clause-begins : goal.returns-clause-begins
returns-clause-begins c = record { document_is = refl; client_is = refl; app = c.new-app.ensures.fresh; outbox = c.new-outbox.ensures; edits = refl }

pub returns-clause-kept : goal.returns-clause-kept
returns-clause-kept c = kept_none c.new-outbox.result c.new-outbox.ensures
