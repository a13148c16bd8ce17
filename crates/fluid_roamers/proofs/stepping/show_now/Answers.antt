use Rattle.std.proofs.Common.{ap, subst, ◌∙◌}
use Rattle.fluid_transcript.specs.Lines.{shown_line}
use Rattle.fluid_desk.specs.Acting.{IsLine}
use Rattle.fluid_roamers.proofs.stepping.show_now.Goals as goal

pub returns : goal.returns
returns c =
    subst (λ t. IsLine t c.line_or_stop.result)
    (ap (λ m. shown_line m c.seq.result c.in_ok-state.state) c.as_str.ensures.bytes ∙ ap (λ n. shown_line c.args.name.now n c.in_ok-state.state) c.seq.ensures ∙ ap (shown_line c.args.name.now c.args.roamer.now.outbox.heard_to) c.in_ok-state.ensures) (c.line_or_stop.ensures _ c.shown_line.ensures)
