use Rattle.std.proofs.Common.{◌≡◌, ap, is_some, sym, ◌∙◌, rules}
use Rattle.std.specs.Option.{unwrap_or}
use Rattle.fluid_clients.specs.Table.{least_with}
use Rattle.fluid_ticket.specs.State.{State, given_or}
use Rattle.fluid_ticket.proofs.Outcomes.{admitted_row}
use Rattle.fluid_ticket.proofs.Prepares.{given_is}
use Rattle.fluid_ticket.proofs.sequencer.Sequencer.lifted.Goals as goal

pub min_with-requires : goal.min_with-requires
min_with-requires c =
    let outcome = rw (← c.self.view_is) at c.requires in
    let s : State = record { sequence = c.self.inside.sequence; last_minimum = c.self.inside.last_minimum; rows = c.self.inside.clients.rows } in
    ap is_some (admitted_row s c.args.id.now c.args.submission.now outcome).1

pub returns : goal.returns
returns c =
    let outcome = rw (← c.self.view_is) at c.requires in
    let s : State = record { sequence = c.self.inside.sequence; last_minimum = c.self.inside.last_minimum; rows = c.self.inside.clients.rows } in
    let row = admitted_row s c.args.id.now c.args.submission.now outcome in
    let reference : c.given_or-reference.result ≡ given_or c.self.inside.sequence c.args.submission.now.reference = search rules in
    let taken = reference ∙ sym (given_is c.self.inside.sequence _ c.args.submission.now.reference row.2.high) in
    rw (← c.self.view_is)
    (ap (λ o. unwrap_or o c.self.inside.sequence) (c.min_with.ensures ∙ ap (least_with c.self.inside.clients.rows c.args.id.now) taken))
