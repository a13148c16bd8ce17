use Rattle.fluid_rules.proofs.Legal.{ledger_behind-entries, entries_behind-append}
use Rattle.fluid_rules.proofs.laws.entries_behind.Goals as goal

pub returns : goal.returns
returns c = λ before first second. record { ledger_is = ledger_behind-entries before first; onwards = entries_behind-append before first second }
