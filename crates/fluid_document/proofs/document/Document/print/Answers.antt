use Rattle.std.proofs.Common.{◌∙◌, ap, subst, IfOk}
use Rattle.fluid_clients.specs.Table.{Parts}
use Rattle.fluid_checkpoint.specs.Heard.{moments_of}
use Rattle.fluid_document.specs.Entries.{Entries, InMemory}
use Rattle.fluid_document.specs.Kept.{IsPrinted}
use Rattle.fluid_document.proofs.Saying.{state_is, printed_ok}
use Rattle.fluid_document.proofs.document.Document.print.Goals as goal

pub returns : goal.returns
returns c =
    let e : Entries = record { state = c.self.inside.core.state; entered = c.self.inside.entered; counted = c.self.inside.counted } in
    let p = c.in_ok-sequencer.ensures in
    subst (λ (m : InMemory). IfOk c.print.result (IsPrinted m.entries)) c.self.view_is
    (printed_ok c.print.result e _ (state_is e c.in_ok-sequencer.field-0.sequencer c.in_ok-sequencer.field-0.scribe c.in_ok-heard.heard p.sequencer p.scribe (c.in_ok-heard.ensures ∙ ap (λ (q : Parts). moments_of q.rows) c.sequencer.view_is))
    c.print.ensures.text c.print.ensures.written)
