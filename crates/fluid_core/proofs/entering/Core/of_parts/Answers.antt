use Rattle.std.proofs.Common.{◌≡◌, ap, ◌∙◌}
use Rattle.fluid_clients.specs.Table.{Parts}
use Rattle.fluid_ticket.specs.State.{State, within_order}
use Rattle.fluid_ticket.proofs.Within.{stands-within}
use Rattle.fluid_scribe.specs.Within.{within as scribe_within}
use Rattle.fluid_core.specs.Entering.{sequencer_of}
use Rattle.fluid_core.proofs.Entered.{same_state}
use Rattle.fluid_core.proofs.Within.{stands_within}
use Rattle.fluid_core.proofs.entering.Core.of_parts.Goals as goal

pub returns : goal.returns
returns c =
    let sequencer = sequencer_of c.args.sequencer in
    let sequencer_is : c.of_parts-sequencer.result.state ≡ within_order sequencer =
    c.of_parts-sequencer.ensures.within ∙ ap (λ (p : Parts). within_order (sequencer_of p)) c.sequencer.view_is in
    let scribe_is = c.of_order-scribe.ensures.within ∙ ap (λ n. scribe_within n c.args.scribe) c.seq.ensures.is in
    record {
      within = same_state _ _ sequencer_is (scribe_is ∙ ap (λ (t : State). scribe_within t.sequence c.args.scribe) sequencer_is);
      sound = c.seq.ensures.sound;
      stands = λ l few stands.
          stands_within sequencer c.args.scribe c.of_parts-sequencer.result.state c.of_order-scribe.result.state l few stands
          (λ legal small first. stands-within sequencer c.of_parts-sequencer.result.state l legal small first sequencer_is) scribe_is;
    }
