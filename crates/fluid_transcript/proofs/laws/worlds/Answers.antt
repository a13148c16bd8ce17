use Rattle.fluid_transcript.proofs.Stepping.{first_is_sound, lines_leave, moment_is_lines, last_grows}
use Rattle.fluid_transcript.proofs.laws.worlds.Goals as goal

pub returns : goal.returns
returns c = record { first = first_is_sound; lines = lines_leave; moment = moment_is_lines; last = last_grows }
