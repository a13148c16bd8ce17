use Rattle.std.proofs.Common.{sym}
use Rattle.std.proofs.lemmas.Int.{to_z-of_z}
use Rattle.fluid_acts.proofs.Reading.{asked_range, out_of_its_range, goes_nowhere}
use Rattle.fluid_acts.proofs.asking.messages_asked.Goals as goal

pub messages-requires-clause-first : goal.messages-requires-clause-first
messages-requires-clause-first g c = (asked_range _ _ _ _ _ (sym (rw c.seq.ensures.is at c.in-Ok.ensures))).above

pub messages-requires-clause-ordered : goal.messages-requires-clause-ordered
messages-requires-clause-ordered g c = (asked_range _ _ _ _ _ (sym (rw c.seq.ensures.is at c.in-Ok.ensures))).ordered

pub messages-requires-clause-last : goal.messages-requires-clause-last
messages-requires-clause-last g c = (asked_range _ _ _ _ _ (sym (rw c.seq.ensures.is at c.in-Ok.ensures))).within

pub returns-in-Ok : goal.returns-in-Ok
returns-in-Ok g c = c.messages.ensures c.args.from c.args.to (sym (rw (c.seq.ensures.is, to_z-of_z _ _ c.ranges.from, to_z-of_z _ _ c.ranges.to) at c.in-Ok.ensures))

pub returns-in-Err : goal.returns-in-Err
returns-in-Err g c =
    rw c.out_of_range.ensures
    (out_of_its_range c.lanes_say_their_ledgers.ensures.says c.args.from c.args.to _ c.in-Err.field (goes_nowhere _) (sym (rw (c.seq.ensures.is, to_z-of_z _ _ c.ranges.from, to_z-of_z _ _ c.ranges.to) at c.in-Err.ensures)))
