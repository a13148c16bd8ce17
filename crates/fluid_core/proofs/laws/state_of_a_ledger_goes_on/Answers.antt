use Rattle.fluid_core.proofs.Entered.{verdict-state_of, state_of-push}
use Rattle.fluid_core.proofs.laws.state_of_a_ledger_goes_on.Goals as goal

pub returns-clause-verdict : goal.returns-clause-verdict
returns-clause-verdict c = verdict-state_of

pub returns-clause-grows : goal.returns-clause-grows
returns-clause-grows c = state_of-push
