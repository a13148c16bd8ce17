use Rattle.fluid_doors.proofs.Reporting.{scribes_lane}
use Rattle.fluid_doors.proofs.door.Door.scribe.Goals as goal

pub returns-in-Ok-clause-scribes : goal.returns-in-Ok-clause-scribes
returns-in-Ok-clause-scribes g c =
    scribes_lane _ _ _ _ _ _ _ _ _ _ _ _ (rw (c.in-Ok-Some.is, c.in-Ok-Some.field-0-is) at c.ask-pass.ensures.job) c.in-Ok.ensures.puts c.report-pass.ensures c.in-Err-answer.is c.of_lane.ensures
