use Rattle.std.proofs.Common.{◌∙◌}
use Rattle.fluidd.proofs.Clients.{limit-refusal}
use Rattle.fluidd.proofs.document.Document.refusal.Goals as goal

pub returns : goal.returns
returns c = λ limits l stands. c.limit_refusal.ensures ∙ limit-refusal limits l _ _ stands
