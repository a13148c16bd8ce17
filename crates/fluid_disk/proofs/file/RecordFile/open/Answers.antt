use Rattle.fluid_disk.proofs.Standing.{tells_from}
use Rattle.fluid_disk.proofs.file.RecordFile.open.Goals as goal

pub returns-in-Ok-clause-opened : goal.returns-in-Ok-clause-opened
returns-in-Ok-clause-opened g c =
    let s = c.in-Ok.ensures.stands in
    record { records = s.0; stands = s.1; later = c.find.ensures.cause.later; found = λ held told. (s.2 held told).0; bytes = λ held told. (s.2 held told).1 }

pub returns-in-Ok-clause-crash : goal.returns-in-Ok-clause-crash
returns-in-Ok-clause-crash g c = tells_from _ _ (λ held told. c.find.ensures.crash held told)

pub returns-in-Err-clause-crash_err : goal.returns-in-Err-clause-crash_err
returns-in-Err-clause-crash_err g c = tells_from _ _ (λ held told. c.find.ensures.crash held told)

pub returns-in-Err-clause-back : goal.returns-in-Err-clause-back
returns-in-Err-clause-back g c = record { later = c.find.ensures.cause.later; cause = c.in-Err.ensures.cause.failed; finds = c.find.ensures.finds }
