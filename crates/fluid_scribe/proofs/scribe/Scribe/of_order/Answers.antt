use Rattle.std.proofs.Common.{rules}
use Rattle.fluid_scribe.proofs.Within.{stands_within}
use Rattle.fluid_scribe.proofs.scribe.Scribe.of_order.Goals as goal

pub returns-clause-within : goal.returns-clause-within
returns-clause-within c = search rules

pub returns-clause-stands : goal.returns-clause-stands
returns-clause-stands c = λ ledger legal few is. stands_within c.args.last c.args.state _ ledger legal few is (returns-clause-within c)
