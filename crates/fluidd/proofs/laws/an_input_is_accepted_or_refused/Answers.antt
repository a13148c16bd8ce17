use Rattle.fluid_pipe.proofs.Refused.{one_of, not_both}
use Rattle.fluidd.specs.Output.{meaning}
use Rattle.fluidd.proofs.laws.an_input_is_accepted_or_refused.Goals as goal

pub returns : goal.returns
returns c = record { one_of = λ limits. one_of (meaning limits); not_both = λ limits. not_both (meaning limits) }
