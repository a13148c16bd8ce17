use Rattle.fluid_rules.proofs.Heard.{heard-push}
use Rattle.fluid_rules.proofs.laws.heard_grows.Goals as goal

pub returns : goal.returns
returns c = heard-push
