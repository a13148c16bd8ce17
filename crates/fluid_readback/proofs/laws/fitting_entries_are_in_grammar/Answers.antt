use Rattle.fluid_readback.proofs.Fitting.{fitting_is_in_grammar}
use Rattle.fluid_readback.proofs.laws.fitting_entries_are_in_grammar.Goals as goal

pub returns : goal.returns
returns c = fitting_is_in_grammar
