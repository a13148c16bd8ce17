use Rattle.std.proofs.Common.{subst}
use Rattle.fluid_transcript.specs.Lines.{turned_away_line}
use Rattle.fluid_voice.specs.declared.refusals.ConnectRefusal.TheVariants.{TooManyDocuments}
use Rattle.fluid_desk.specs.Acting.{IsLine}
use Rattle.fluid_roamers.proofs.stepping.beyond.Goals as goal

pub returns : goal.returns
returns c = subst (λ n. IsLine (turned_away_line n TooManyDocuments) c.line_or_stop.result) c.as_str.ensures.bytes (c.line_or_stop.ensures _ c.turned_away_line.ensures)
