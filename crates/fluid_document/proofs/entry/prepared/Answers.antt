use Rattle.fluid_document.proofs.Entering.{whole_some}
use Rattle.fluid_document.proofs.Handed.{handed_on}
use Rattle.fluid_document.proofs.entry.prepared.Goals as goal

pub returns-in_err-record-clause-room : goal.returns-in_err-record-clause-room
returns-in_err-record-clause-room g c =
    rw (handed_on c.from_residual-in_err-record.result _ c.from_residual-in_err-record.ensures.1) (whole_some _ _ _ c.in_ok-make_room.ensures.room)

pub returns-in_err-prepared-clause-room : goal.returns-in_err-prepared-clause-room
returns-in_err-prepared-clause-room g c =
    rw (handed_on c.from_residual-in_err-prepared.result _ c.from_residual-in_err-prepared.ensures.1) (whole_some _ _ _ c.in_ok-make_room.ensures.room)
