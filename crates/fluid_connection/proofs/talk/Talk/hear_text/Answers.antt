use Rattle.std.proofs.Common.{rules, ◌≡◌, ◌∙◌, true, false, refl, sym, ap, subst}
use Rattle.fluid_voice.specs.Heard.{acts_of}
use Rattle.fluid_voice.specs.States.{is_connected}
use Rattle.fluid_connection.specs.Knowing.{keyed}
use Rattle.fluid_connection.specs.Talked.{Talked, talking}
use Rattle.fluid_connection.specs.Hearing.{AreAskedApart}
use Rattle.fluid_connection.proofs.Hears.{hears_connected, hears_apart, hears_nothing}
use Rattle.fluid_connection.proofs.talk.Talk.hear_text.Goals as goal

pub returns-in-Err-clause-does : goal.returns-in-Err-clause-does
returns-in-Err-clause-does g c = hears_nothing _ _ _ _ _ _ _ _ c.heard.ensures c.new.ensures.replies c.new.ensures.counts refl refl c.requires.unused

pub returns-then-is_connected-clause-does : goal.returns-then-is_connected-clause-does
returns-then-is_connected-clause-does g c =
    let is : c.self.inside.voice ≡ c.args.self.now.voice = ap (λ (t : Talked). t.voice) c.self.view_is in
    let on : is_connected c.args.self.now.voice ≡ true = ap is_connected (sym (c.state.ensures ∙ is)) ∙ sym c.is_connected.ensures ∙ c.if-is_connected.true in
    hears_connected _ _ _ _ _ _ _ _ _ (search rules) c.connected_ones_stay.ensures c.replies_are_no_events.ensures c.in-Ok.acts
    (c.in-Ok.ensures.asked ∙ ap (λ v. acts_of v c.args.text.now c.args.moment) is) on c.hear_connected-told.ensures.stays.voice (ap keyed c.hear_connected-told.ensures.stays.key) c.hear_connected-told.ensures.does

pub returns : goal.returns
returns g c =
    let is : c.self.inside.voice ≡ c.args.self.now.voice = ap (λ (t : Talked). t.voice) c.self.view_is in
    let off : is_connected c.args.self.now.voice ≡ false = ap is_connected (sym (c.state.ensures ∙ is)) ∙ sym c.is_connected.ensures ∙ c.if-is_connected.false in
    let asked = c.in-Ok.ensures.asked ∙ ap (λ v. acts_of v c.args.text.now c.args.moment) is in
    record {
      service = c.hear_apart-told.ensures.service;
      does =
          hears_apart (talking c.args.self.now) (talking c.hear_apart-told.new.self) (g.O.Objects.seen c.args.objects.now) c.args.text.now c.args.moment c.hear_apart-told.result.0 c.hear_apart-told.result.1 c.heard-2.result c.heard-2.ensures
          c.replies_are_no_events.ensures c.in-Ok.acts asked (subst AreAskedApart (sym asked) (c.others_ask.ensures c.args.self.now.voice c.args.text.now c.args.moment off c.requires.moment)) off c.hear_apart-told.ensures.does;
    }
