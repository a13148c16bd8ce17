use Rattle.fluid_rules.proofs.Minimum.{joined-has, joined-in_order}
use Rattle.fluid_rules.proofs.laws.joined_in_order.Goals as goal

pub returns : goal.returns
returns c = λ l. record { members = joined-has l; in_order = joined-in_order l }
