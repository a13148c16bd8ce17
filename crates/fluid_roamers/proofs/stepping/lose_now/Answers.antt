use Rattle.std.proofs.Common.{[]}
use Rattle.fluid_transcript.specs.World.{ledger_of}
use Rattle.fluid_roamers.proofs.Roaming.{loses}
use Rattle.fluid_roamers.proofs.stepping.lose_now.Goals as goal

pub returns-clause-does : goal.returns-clause-does
returns-clause-does c = λ limits w d k is. loses (ledger_of d) c.args.roamer.now c.lose.new.self k [] [] is (c.lose.ensures.does is.past is.outbox)

pub returns-clause-line : goal.returns-clause-line
returns-clause-line c = c.line_or_stop.ensures _ c.lost_line.ensures

pub returns-clause-kept : goal.returns-clause-kept
returns-clause-kept c = c.lose.ensures.kept
