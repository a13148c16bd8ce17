use Rattle.std.proofs.Common.{sym}
use Rattle.fluid_document.proofs.Records.{record_fits}
use Rattle.fluid_document.proofs.loading.read_record.Goals as goal

pub returns-in-Ok-Some-clause-fits : goal.returns-in-Ok-Some-clause-fits
returns-in-Ok-Some-clause-fits g c = record_fits c.as_slice.result.now c.in-Ok-Some.raw (sym (rw c.in-Ok-Some.field-0-is at c.in-Ok-Some.ensures))
