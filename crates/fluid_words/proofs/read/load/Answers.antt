use Rattle.std.proofs.Common.{◌∙◌, ap₂}
use Rattle.clap.specs.Simple.{with_rule}
use Rattle.fluid_words.proofs.read.load.Goals as goal

pub returns : goal.returns
returns c = c.in_ok-command.ensures.shape c.wanted.ensures.local ∙ ap₂ with_rule c.command.ensures c.wanted.ensures.rule
