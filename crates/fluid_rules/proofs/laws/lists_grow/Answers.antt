use Rattle.fluid_types.proofs.Ledgers.{raws-push, order-push, seq-push}
use Rattle.fluid_rules.proofs.laws.lists_grow.Goals as goal

pub returns : goal.returns
returns c = λ l entry. record { raws_grow = raws-push l entry; order_grows = order-push l entry; seq_grows = seq-push l entry }
