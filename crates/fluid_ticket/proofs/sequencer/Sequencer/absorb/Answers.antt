use Rattle.std.proofs.Common.{◌≡◌, sym, rules}
use Rattle.fluid_ticket.specs.State.{State, given_or}
use Rattle.fluid_ticket.proofs.Outcomes.{admitted_row}
use Rattle.fluid_ticket.proofs.Prepares.{submit_absorbed}
use Rattle.fluid_ticket.proofs.sequencer.Sequencer.absorb.Goals as goal

pub returns : goal.returns
returns c = λ answer.
    let outcome = rw (← c.self.view_is) at c.requires.admitted in
    let absorbs = rw (← c.self.view_is) at c.requires.absorbed in
    let s : State = record { sequence = c.self.inside.sequence; last_minimum = c.self.inside.last_minimum; rows = c.self.inside.clients.rows } in
    let row = admitted_row s c.args.id.now c.args.submission.now outcome in
    let reference : c.given_or.result ≡ given_or c.self.inside.sequence c.args.submission.now.reference = search rules in
    rw (← c.self.view_is, c.new.ensures, c.in_ok-id.ensures, reference)
    (sym (submit_absorbed s c.args.id.now c.args.moment c.args.submission.now answer outcome absorbs row.2.high))
