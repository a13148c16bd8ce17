use Rattle.fluid_rules.proofs.Heard.{last_minimum-push}
use Rattle.fluid_rules.proofs.laws.last_minimum_grows.Goals as goal

pub returns : goal.returns
returns c = last_minimum-push
