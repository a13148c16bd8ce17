use Rattle.fluid_rules.proofs.Computed.{after_refusal}
use Rattle.fluid_rules.proofs.examples.after_refusal.Goals as goal

pub returns : goal.returns
returns c = after_refusal
