use Rattle.std.proofs.Common.{[], ◌∙◌, ap, if◌then◌else◌}
use Rattle.fluid_voice.specs.declared.states.VoiceState.TheVariants.{Used}
use Rattle.fluid_connection.proofs.leaving.take_leave.Goals as goal

pub returns : goal.returns
returns c = c.take_leave.ensures [] 0 ∙ ap (λ b. if b then Used else c.args.voice.now) c.requires
