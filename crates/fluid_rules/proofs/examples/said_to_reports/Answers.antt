use Rattle.fluid_rules.proofs.SummariesComputed.{said_to_reports}
use Rattle.fluid_rules.proofs.examples.said_to_reports.Goals as goal

pub returns : goal.returns
returns c = said_to_reports
