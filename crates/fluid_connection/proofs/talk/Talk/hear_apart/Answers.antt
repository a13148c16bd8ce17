use Rattle.std.proofs.Common.{◌∙◌, refl, ap}
use Rattle.fluid_connection.specs.Knowing.{keyed}
use Rattle.fluid_connection.specs.Talked.{Talked, pass_of, talking}
use Rattle.fluid_connection.proofs.Reached.{apart_none, apart_say, connect_fits}
use Rattle.fluid_connection.proofs.talk.Talk.hear_apart.Goals as goal

pub connect-requires-clause-fits : goal.connect-requires-clause-fits
connect-requires-clause-fits g c = connect_fits c.args.acts _ (rw c.in-Some-Connect.field-0-is at c.in-Some-Connect.ensures) c.requires.fit

pub returns-in-None-clause-does : goal.returns-in-None-clause-does
returns-in-None-clause-does g c =
    apart_none (talking c.args.self.now) (talking c.args.self.now) c.args.acts c.new.result c.requires.apart c.requires.unused refl refl refl refl c.in-None.ensures c.new.ensures.replies c.new.ensures.counts

pub returns-in-Some-Say-clause-does : goal.returns-in-Some-Say-clause-does
returns-in-Some-Say-clause-does g c =
    let is = c.self.view_is in
    apart_say (talking c.args.self.now) _ c.args.acts c.say_one.result.0 c.requires.apart c.requires.unused
    (c.take-replies.ensures.state ∙ ap (λ (t : Talked). t.voice) is) (ap (λ (t : Talked). pass_of t.visit) is) (ap (λ (t : Talked). pass_of t.handed) is) (ap (λ (t : Talked). keyed t.key) is)
    c.in-Some-Say.reply c.take-replies.result c.say_one.result.1 (rw c.in-Some-Say.field-0-is at c.in-Some-Say.ensures) c.take-replies.ensures.replies c.say_one.ensures
