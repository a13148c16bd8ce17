use Rattle.fluid_rules.proofs.Pushed.{client-push}
use Rattle.fluid_rules.proofs.laws.client_grows.Goals as goal

pub returns : goal.returns
returns c = client-push
