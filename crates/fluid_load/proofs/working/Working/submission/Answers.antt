use Rattle.std.proofs.Common.{ap}
use Rattle.fluid_load.proofs.working.Working.submission.Goals as goal

pub returns-clause-same : goal.returns-clause-same
returns-clause-same g c = rw (← c.self.view_is) (ap (λ lanes. record { lanes = lanes; store = c.self.inside.objects; names = c.self.inside.names.table.values; sent = c.self.inside.sent.table.values; tally = c.self.inside.tally; good = c.self.inside.may.value }) c.submission.ensures.same)

pub returns-clause-is : goal.returns-clause-is
returns-clause-is g c = rw (← c.self.view_is) (λ w client goes at is.
    c.submission.ensures.is w client goes.stands.stands.desk goes.open_is at goes.stands.sent is.name is.collected)
