use Rattle.fluid_clients.specs.declared.table.Row.{Row}
use Rattle.std.proofs.Common.{true}
use Rattle.fluid_ticket.proofs.Ledgers.{changed_twice}
use Rattle.fluid_ticket.proofs.sequencer.apply.Goals as goal

pub returns-in-Accepts : goal.returns-in-Accepts
returns-in-Accepts g c =
    let fits = rw c.in-Accepts.is at c.requires.fits in
    let taking : Row → Row = λ row. record row { last = c.in-Accepts.number; reference = c.in-Accepts.reference } in
    let hearing : Row → Row = λ row. record row { heard = c.in-Accepts.moment } in
    rw c.in-Accepts.is (changed_twice _ _ _ _ taking hearing fits.0 c.accept.ensures.accepted c.hear.ensures.heard)

pub returns-in-Holds : goal.returns-in-Holds
returns-in-Holds g c =
    let fits = rw c.in-Holds.is at c.requires.fits in
    let holding : Row → Row = λ row. record row { last = c.in-Holds.number; reference = c.in-Holds.minimum; nacked = true } in
    let hearing : Row → Row = λ row. record row { heard = c.in-Holds.moment } in
    rw c.in-Holds.is (changed_twice _ _ _ _ holding hearing fits.0 c.mark.ensures.marked c.hear-in-Holds.ensures.heard)
