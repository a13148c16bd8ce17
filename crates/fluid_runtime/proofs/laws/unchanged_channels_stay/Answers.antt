use Rattle.std.proofs.Common.{refl}
use Rattle.fluid_edits.specs.Forms.{edit_of}
use Rattle.fluid_runtime.proofs.Since.{after_edit}
use Rattle.fluid_runtime.proofs.laws.unchanged_channels_stay.Goals as goal

pub returns-clause-marked : goal.returns-clause-marked
returns-clause-marked c = λ channels at is. refl

pub returns-clause-stays : goal.returns-clause-stays
returns-clause-stays c = λ earlier channels changed message since. after_edit earlier channels changed (edit_of message) since
