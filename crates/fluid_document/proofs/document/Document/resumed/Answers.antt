use Rattle.std.proofs.Common.{◌∙◌, ap, arith}
use Rattle.fluid_document.proofs.Saying.{resumed_entries}
use Rattle.fluid_document.proofs.document.Document.resumed.Goals as goal

pub returns : goal.returns
returns c =
    let at = ap (λ p. p.sequence) c.sequencer.view_is in
    record {
      entries = resumed_entries c.args.state _ c.of_parts.ensures.within;
      before = c.resume.ensures.before ∙ at;
      held = c.resume.ensures.held;
      part = λ order few first all. c.resume.ensures.part order (omega (arith, few, at)) first all;
    }
