use Rattle.fluid_runtime.proofs.Since.{whole_tree}
use Rattle.fluid_runtime.proofs.laws.handles_are_resolved.Goals as goal

pub returns : goal.returns
returns c = λ earlier channels changed since. whole_tree earlier channels changed since
