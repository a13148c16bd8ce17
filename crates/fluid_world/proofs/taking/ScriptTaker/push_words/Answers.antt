use Rattle.std.proofs.Common.{◌∙◌, ◌++◌, sym, ap}
use Rattle.fluid_world.proofs.FromStart.{words_mean}
use Rattle.fluid_world.proofs.taking.ScriptTaker.push_words.Goals as goal

pub returns-clause-words : goal.returns-clause-words
returns-clause-words g c = λ m before b. c.in_ok-extend_from_slice.ensures.items ∙ ap (λ t. c.args.line.now.items ++ t) (c.as_bytes.ensures.value ∙ c.text.ensures ∙ sym (words_mean g.W.Origin.told m before c.args.self.now b c.args.why.now))
