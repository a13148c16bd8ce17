use Rattle.fluid_session.proofs.Onward.{received_text, cycled, cycled_fed, received_quiet, received_end, received_long, received_failed, received_refused}
use Rattle.fluid_session.proofs.cycling.cycle.Goals as goal

pub returns-in-Ok-Text-clause-does : goal.returns-in-Ok-Text-clause-does
returns-in-Ok-Text-clause-does g c =
    cycled _ _ _ _ _ _ _ _ _ _ (c.in-Ok.ensures.does (g.O.Objects.seen c.args.objects.now) c.args.tally.now c.requires.few)
    (c.answer.ensures.does (g.W.Wire.seen c.feed.new.wire)
    (received_text _ _ c.in-Ok-Text.field-0 c.in-Ok-Text.text c.as_str.result.now c.in-Ok-Text.ensures.does c.in-Ok-Text.field-0-is c.as_str.ensures) c.in-Ok-Text.ensures.stays)

pub returns-in-Ok-Quiet-clause-does : goal.returns-in-Ok-Quiet-clause-does
returns-in-Ok-Quiet-clause-does g c =
    cycled _ _ _ _ _ _ _ _ _ _ (c.in-Ok.ensures.does (g.O.Objects.seen c.args.objects.now) c.args.tally.now c.requires.few)
    (received_quiet _ _ _ _ c.in-Ok-Quiet.field-0 c.requires.few c.in-Ok-Quiet.ensures.does c.in-Ok-Quiet.field-0-is c.in-Ok-Quiet.ensures.stays)

pub returns-in-Ok-End-clause-does : goal.returns-in-Ok-End-clause-does
returns-in-Ok-End-clause-does g c =
    cycled _ _ _ _ _ _ _ _ _ _ (c.in-Ok.ensures.does (g.O.Objects.seen c.args.objects.now) c.args.tally.now c.requires.few)
    (received_end _ _ _ _ c.in-Ok-End.field-0 c.requires.few c.in-Ok.ensures.reached c.in-Ok-End.ensures.does c.in-Ok-End.field-0-is c.in-Ok-End.ensures.stays)

pub returns-in-Ok-TooLong-clause-does : goal.returns-in-Ok-TooLong-clause-does
returns-in-Ok-TooLong-clause-does g c =
    cycled _ _ _ _ _ _ _ _ _ _ (c.in-Ok.ensures.does (g.O.Objects.seen c.args.objects.now) c.args.tally.now c.requires.few)
    (received_long _ _ _ _ c.in-Ok-TooLong.field-0 c.in-Ok-TooLong.size c.requires.few c.in-Ok-TooLong.ensures.does c.in-Ok-TooLong.field-0-is c.in-Ok-TooLong.ensures.stays)

pub returns-in-Err-Failed-clause-does : goal.returns-in-Err-Failed-clause-does
returns-in-Err-Failed-clause-does g c =
    cycled _ _ _ _ _ _ _ _ _ _ (c.in-Ok.ensures.does (g.O.Objects.seen c.args.objects.now) c.args.tally.now c.requires.few)
    (received_failed _ _ _ _ c.in-Err-Failed.field-0 c.requires.few c.in-Err-Failed.ensures.does c.in-Err-Failed.field-0-is c.in-Err-Failed.ensures.stays)

pub returns-in-Err-NoMemory-clause-does : goal.returns-in-Err-NoMemory-clause-does
returns-in-Err-NoMemory-clause-does g c =
    cycled _ _ _ _ _ _ _ _ _ _ (c.in-Ok.ensures.does (g.O.Objects.seen c.args.objects.now) c.args.tally.now c.requires.few)
    (received_refused _ _ _ _ c.in-Err-NoMemory.field-0 c.requires.few c.in-Err-NoMemory.ensures.does c.in-Err-NoMemory.field-0-is c.in-Err-NoMemory.ensures.stays)

pub returns-in-Err-clause-does : goal.returns-in-Err-clause-does
returns-in-Err-clause-does g c = cycled_fed _ _ _ _ _ _ _ (c.in-Err.ensures.does (g.O.Objects.seen c.args.objects.now) c.args.tally.now c.requires.few)
