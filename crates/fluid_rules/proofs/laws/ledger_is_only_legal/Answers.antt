use Rattle.std.proofs.Common.{◌∙◌, ap}
use Rattle.fluid_rules.specs.Rules.{ledger}
use Rattle.fluid_rules.proofs.Legal.{ledger-legal, ledger-raws, ledger-only}
use Rattle.fluid_rules.proofs.laws.ledger_is_only_legal.Goals as goal

pub returns : goal.returns
returns c = λ entries. record { legal = ledger-legal entries; entries_are = ledger-raws entries; only = λ l legal at. ledger-only l legal ∙ ap ledger at }
