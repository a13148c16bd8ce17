use Rattle.std.proofs.Common.{◌∙◌, subst}
use Rattle.fluid_connection.specs.Knowing.{knowing}
use Rattle.fluid_connection.specs.Hearing.{AsksAs}
use Rattle.fluid_connection.proofs.Questions.{stays_question, says_end, says_fault}
use Rattle.fluid_connection.proofs.asking.do_one.Goals as goal

pub returns-in-Ok-clause-same : goal.returns-in-Ok-clause-same
returns-in-Ok-clause-same g c = c.take.ensures.state ∙ stays_question c.args.voice.now c.args.act c.in-Ok.end c.requires.act

pub returns-in-Ok-clause-does : goal.returns-in-Ok-clause-does
returns-in-Ok-clause-does g c =
    let p = knowing c.args.door.now.name c.args.pass in let q = knowing c.args.door.now.name c.ask-pass.result.0 in
    let before = g.O.Objects.seen c.args.objects.now in let now = g.O.Objects.seen c.ask-pass.new.objects in
    says_end c.args.voice.now p q before now c.args.act c.requires.act c.in-Ok.end c.take.result c.say_one-told.result.0 c.say_one-told.result.1
    (subst (λ r. AsksAs p q before now c.args.act r) c.in-Ok.is c.ask-pass.ensures.does) c.take.ensures.replies c.say_one-told.ensures

pub returns-in-Err-clause-does : goal.returns-in-Err-clause-does
returns-in-Err-clause-does g c =
    let p = knowing c.args.door.now.name c.args.pass in let q = knowing c.args.door.now.name c.ask-pass.result.0 in
    let before = g.O.Objects.seen c.args.objects.now in let now = g.O.Objects.seen c.ask-pass.new.objects in
    says_fault c.args.voice.now p q before now c.args.act c.requires.act c.in-Err.fault c.new.result
    (subst (λ r. AsksAs p q before now c.args.act r) c.in-Err.is c.ask-pass.ensures.does) c.new.ensures.replies c.new.ensures.counts
