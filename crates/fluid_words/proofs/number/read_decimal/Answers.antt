use Rattle.std.proofs.Common.{◌∙◌, rules}
use Rattle.fluid_words.proofs.Decimal.{parsed}
use Rattle.fluid_words.proofs.number.read_decimal.Goals as goal

pub returns : goal.returns
returns c = c.ok.ensures.value ∙ parsed c.args.word.now _ (search rules) c.parse.ensures.value.0
