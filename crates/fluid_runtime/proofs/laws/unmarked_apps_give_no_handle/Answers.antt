use Rattle.fluid_edits.specs.Forms.{edit_of}
use Rattle.fluid_runtime.proofs.Since.{still_unmarked, whole_unmarked}
use Rattle.fluid_runtime.proofs.laws.unmarked_apps_give_no_handle.Goals as goal

pub returns-clause-stays : goal.returns-clause-stays
returns-clause-stays c = λ channels changed message unmarked. still_unmarked channels changed (edit_of message) unmarked

pub returns-clause-whole : goal.returns-clause-whole
returns-clause-whole c = λ channels changed unmarked. whole_unmarked channels changed unmarked
