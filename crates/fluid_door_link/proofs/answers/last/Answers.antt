use Rattle.std.proofs.Common.{◌∙◌}
use Rattle.fluid_voice.proofs.Lists.{last_is}
use Rattle.fluid_door_link.proofs.answers.last.Goals as goal

pub returns : goal.returns
returns c = c.copied.ensures ∙ c.last.ensures.value ∙ last_is c.args.acks.now
