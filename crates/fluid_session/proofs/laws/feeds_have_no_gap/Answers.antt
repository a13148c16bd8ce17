use Rattle.fluid_session.proofs.Passes.{stretches}
use Rattle.fluid_session.proofs.laws.feeds_have_no_gap.Goals as goal

pub returns : goal.returns
returns c = stretches
