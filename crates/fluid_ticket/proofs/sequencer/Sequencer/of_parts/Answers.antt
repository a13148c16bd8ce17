use Rattle.std.proofs.Common.{◌≡◌, ap, sym, subst, ◌∙◌}
use Rattle.std.specs.Option.{unwrap_or}
use Rattle.fluid_clients.specs.Table.{rows_up_to, least}
use Rattle.fluid_ticket.specs.State.{State, within_order, IsSoundWith}
use Rattle.fluid_ticket.proofs.Within.{within_order-is, within-kept, sound-within, stands-within}
use Rattle.fluid_ticket.proofs.sequencer.Sequencer.of_parts.Goals as goal

pub returns-clause-within : goal.returns-clause-within
returns-clause-within c = within_order-is c.args.sequence c.args.minimum c.args.clients.rows _ _ _ c.min-sequence.ensures c.minimum_up_to.ensures c.put_down.ensures.down

pub returns-clause-sound : goal.returns-clause-sound
returns-clause-sound c = λ sound low. returns-clause-within c ∙ sound-within _ sound low

pub invariant_of-result : goal.invariant_of-result
invariant_of-result c =
    let same = within_order-is c.args.sequence c.args.minimum c.args.clients.rows _ _ _ c.min-sequence.ensures c.minimum_up_to.ensures c.put_down.ensures.down in
    within-kept _ _ _ same (c.unwrap_or-least.ensures ∙ ap (λ o. unwrap_or o c.min-sequence.result) c.min.ensures)

pub returns-clause-stands : goal.returns-clause-stands
returns-clause-stands c = λ ledger legal few stands. stands-within _ _ ledger legal few stands (returns-clause-within c)
