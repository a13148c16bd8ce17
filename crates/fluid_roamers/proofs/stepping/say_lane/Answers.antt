use Rattle.std.proofs.Common.{◌∙◌}
use Rattle.fluid_transcript.specs.World.{ledger_of}
use Rattle.fluid_roamers.proofs.Roaming.{lays_over}
use Rattle.fluid_roamers.proofs.Acts.{laid, unsaid_steps}
use Rattle.fluid_roamers.proofs.Reading.{reads_unsaid}
use Rattle.fluid_roamers.proofs.Saying.{said_so_far}
use Rattle.fluid_roamers.specs.Taking.{IsSendable}
use Rattle.fluid_roamers.proofs.Roamed.{always}
use Rattle.fluid_roamers.proofs.stepping.say_lane.Goals as goal

pub returns-in-Ok-clause-does : goal.returns-in-Ok-clause-does
returns-in-Ok-clause-does g c = λ limits w d k of at stands is.
    let over = c.in-Ok.ensures.does is.past is.outbox in
    laid limits w d c.args.name.now k c.args.roamer.now is c.args.edit c.send_said.new.lane c.send_said.new.roamer c.send_said.result over.allowed
    (c.send_said.ensures.does limits w d k c.args.edit of at stands (lays_over (ledger_of d) c.args.roamer.now c.lay_over.new.self k c.args.edit c.in-Ok.number is over)
    (over.number_is ∙ said_so_far (ledger_of d) c.args.roamer.now k _ is))

pub returns-in-Err-clause-does : goal.returns-in-Err-clause-does
returns-in-Err-clause-does g c = λ limits w d k of at stands is.
    unsaid_steps limits w d c.args.name.now k c.args.roamer.now is c.args.edit c.args.lane.now c.lay_over.new.self is.past c.in-Err.fault of (c.in-Err.ensures.does is.past is.outbox) c.unsaid.result c.unsaid.ensures

pub returns-in-Err-clause-runs : goal.returns-in-Err-clause-runs
returns-in-Err-clause-runs g c = reads_unsaid c.args.lane.now c.args.name.now c.in-Err.fault c.unsaid.result c.unsaid.ensures

pub returns-in-Err-clause-kept : goal.returns-in-Err-clause-kept
returns-in-Err-clause-kept g c = always (IsSendable c.lay_over.new.self.outbox) c.unsaid.result c.lay_over.ensures.kept
