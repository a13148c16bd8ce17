use Rattle.std.proofs.Common.{ap, ◌++◌, ◌∙◌}
use Rattle.json.specs.Print.{print}
use Rattle.fluid_json.proofs.Texts.{print-tokens_of}
use Rattle.fluid_json.proofs.printing.Printer.into_vec.Goals as goal

pub returns : goal.returns
returns c t are =
    c.into_inner.ensures.items ∙ ap (λ p. p.before ++ print p.tokens) c.self.view_is ∙ ap (λ s. c.args.self.before ++ s) (ap print are ∙ print-tokens_of t)
