use Rattle.std.proofs.Common.{sym}
use Rattle.std.proofs.lemmas.Int.{to_z-of_z}
use Rattle.fluid_doors.proofs.Lookings.{asked_range, looks_out}
use Rattle.fluid_doors.proofs.looking.messages_asked.Goals as goal

pub messages-requires-clause-first : goal.messages-requires-clause-first
messages-requires-clause-first g c = (asked_range _ _ _ _ _ (sym (rw c.seq.ensures.is at c.in-Ok.ensures))).above

pub messages-requires-clause-ordered : goal.messages-requires-clause-ordered
messages-requires-clause-ordered g c = (asked_range _ _ _ _ _ (sym (rw c.seq.ensures.is at c.in-Ok.ensures))).ordered

pub messages-requires-clause-last : goal.messages-requires-clause-last
messages-requires-clause-last g c = (asked_range _ _ _ _ _ (sym (rw c.seq.ensures.is at c.in-Ok.ensures))).within

pub returns-in-Ok-clause-says : goal.returns-in-Ok-clause-says
returns-in-Ok-clause-says g c = c.messages.ensures.says c.args.from c.args.to (sym (rw (c.seq.ensures.is, to_z-of_z _ _ c.ranges.from, to_z-of_z _ _ c.ranges.to) at c.in-Ok.ensures))

pub returns-in-Err-clause-says : goal.returns-in-Err-clause-says
returns-in-Err-clause-says g c = λ l stands.
    rw c.out_of_range.ensures
    (looks_out c.lanes_say_their_ledgers.ensures.says _ l stands c.args.from c.args.to c.in-Err.field (sym (rw (c.seq.ensures.is, to_z-of_z _ _ c.ranges.from, to_z-of_z _ _ c.ranges.to) at c.in-Err.ensures)))
