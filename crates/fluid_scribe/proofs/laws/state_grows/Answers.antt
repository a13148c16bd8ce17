use Rattle.fluid_scribe.proofs.Grown.{state-grows, state-start}
use Rattle.fluid_scribe.proofs.laws.state_grows.Goals as goal

pub returns-clause-start : goal.returns-clause-start
returns-clause-start c = state-start

pub returns-clause-grows : goal.returns-clause-grows
returns-clause-grows c = state-grows
