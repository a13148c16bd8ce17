use Rattle.std.proofs.Common.{◌∙◌, ap₂}
use Rattle.clap.specs.Simple.{with_rule}
use Rattle.fluid_words.proofs.read.workload.Goals as goal

pub returns : goal.returns
returns c =
    c.in_ok-command.ensures.shape c.option-2.ensures.local
    ∙ ap₂ with_rule (c.in_ok-arg-2.ensures.shape c.option.ensures.local
    ∙ ap₂ with_rule (c.in_ok-arg.ensures.shape c.wanted.ensures.local ∙ ap₂ with_rule c.command.ensures c.wanted.ensures.rule) c.option.ensures.rule) c.option-2.ensures.rule
