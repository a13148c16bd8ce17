use Rattle.std.proofs.Common.{◌≡◌, ◌+◌, ap, is_some, sym, arith, rules}
use Rattle.fluid_ticket.specs.State.{State, given_or}
use Rattle.fluid_ticket.proofs.Outcomes.{admitted_row}
use Rattle.fluid_ticket.proofs.Prepares.{submit_admitted}
use Rattle.fluid_ticket.proofs.sequencer.Sequencer.admit.Goals as goal

pub min_with-minimum-requires : goal.min_with-minimum-requires
min_with-minimum-requires c =
    let outcome = rw (← c.self.view_is) at c.requires.admitted in
    let s : State = record { sequence = c.self.inside.sequence; last_minimum = c.self.inside.last_minimum; rows = c.self.inside.clients.rows } in
    ap is_some (admitted_row s c.args.id.now c.args.submission.now outcome).1

pub submitted-requires-clause-counted : goal.submitted-requires-clause-counted
submitted-requires-clause-counted c = omega (arith, c.requires.in_range)

pub returns : goal.returns
returns c = λ answer.
    let outcome = rw (← c.self.view_is) at c.requires.admitted in
    let moves = rw (← c.self.view_is) at c.requires.moves in
    let s : State = record { sequence = c.self.inside.sequence; last_minimum = c.self.inside.last_minimum; rows = c.self.inside.clients.rows } in
    let row = admitted_row s c.args.id.now c.args.submission.now outcome in
    let reference : c.given_or-reference.result ≡ given_or (c.self.inside.sequence + 1) c.args.submission.now.reference = search rules in
    rw (← c.self.view_is, c.new.ensures, c.in_ok-message.ensures, c.in_ok-id.ensures, reference)
    (sym (submit_admitted s c.args.id.now c.args.moment c.args.submission.now answer row.0 c.min_with-minimum.result row.1 outcome moves row.2.high (rw reference at c.min_with-minimum.ensures)))
