use Rattle.fluid_transcript.proofs.Growing.{world_grows, lines_grow, transcript_grows}
use Rattle.fluid_transcript.proofs.laws.one_line_more.Goals as goal

pub returns : goal.returns
returns c = record { world = world_grows; lines = lines_grow; transcript = transcript_grows }
