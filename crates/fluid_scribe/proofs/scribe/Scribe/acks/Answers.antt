use Rattle.std.proofs.Common.{◌∙◌, rules}
use Rattle.fluid_scribe.proofs.Taken.{stands-acks}
use Rattle.fluid_scribe.proofs.scribe.Scribe.acks.Goals as goal

pub returns-clause-acks : goal.returns-clause-acks
returns-clause-acks c = search rules

pub returns-clause-stands : goal.returns-clause-stands
returns-clause-stands c = λ ledger stands. returns-clause-acks c ∙ stands-acks c.args.self.now ledger stands
