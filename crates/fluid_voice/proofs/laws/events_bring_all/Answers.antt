use Rattle.fluid_voice.proofs.Feeding.{events_bring_all, events_are_whole}
use Rattle.fluid_voice.proofs.laws.events_bring_all.Goals as goal

pub returns : goal.returns
returns c = record { all = events_bring_all; whole = events_are_whole }
