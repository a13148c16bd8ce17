use Rattle.fluid_rules.proofs.Legal.{ledger-push}
use Rattle.fluid_rules.proofs.laws.ledger_grows.Goals as goal

pub returns : goal.returns
returns c = ledger-push
