use Rattle.std.proofs.Common.{◌≡◌, ◌∙◌, true, false, [], Ok, sym, ap, subst}
use Rattle.fluid_voice.specs.States.{is_connected, next_number}
use Rattle.fluid_talk.specs.Collecting.{Collects}
use Rattle.fluid_service.specs.Keys.{AKey}
use Rattle.fluid_connection.specs.Talked.{Talked, talking}
use Rattle.fluid_connection.proofs.Standing.{quiet_gives, apart_gives, connected_gives}
use Rattle.fluid_connection.proofs.talk.TalkConversation.collect.Goals as goal

pub returns-in_default-clause-does : goal.returns-in_default-clause-does
returns-in_default-clause-does g c =
    let t = talking c.args.self.now in
    let apart : is_connected c.args.self.now.voice ≡ false = sym (ap is_connected (c.state.ensures ∙ ap (λ (s : Talked). s.voice) c.self.view_is)) ∙ c.next_of.ensures.none c.in_default.is in
    subst (λ replies. Collects t t (Ok replies)) (sym c.new.ensures) (apart_gives t apart)

pub returns-then-is_quiet-clause-does : goal.returns-then-is_quiet-clause-does
returns-then-is_quiet-clause-does g c =
    let t : Talked = record { voice = c.self.inside.voice; key = c.self.inside.key; visit = c.self.inside.visit; handed = c.self.inside.handed } in
    let joined : is_connected c.self.inside.voice ≡ true = sym (ap is_connected c.state.ensures) ∙ (c.next_of.ensures.some c.in-Some.next c.in-Some.is).0 in
    subst (λ replies. Collects (talking c.args.self.now) (talking c.args.self.now) (Ok replies)) (sym c.new-then-is_quiet.ensures)
    (subst (λ (s : Talked). Collects (talking s) (talking s) (Ok [])) c.self.view_is (quiet_gives t c.self.inside.settled (c.is_quiet.ensures c.if-is_quiet.true) c.self.invariant.1 joined))

pub collect_new-requires-clause-connected : goal.collect_new-requires-clause-connected
collect_new-requires-clause-connected g c =
    sym (ap is_connected (c.state.ensures ∙ ap (λ (s : Talked). s.voice) c.self.view_is)) ∙ (c.next_of.ensures.some c.in-Some.next c.in-Some.is).0

pub collect_new-requires-clause-next : goal.collect_new-requires-clause-next
collect_new-requires-clause-next g c =
    (c.next_of.ensures.some c.in-Some.next c.in-Some.is).1 ∙ ap next_number (c.state.ensures ∙ ap (λ (s : Talked). s.voice) c.self.view_is)

pub returns-clause-service : goal.returns-clause-service
returns-clause-service g c = λ x here. ap (λ (k : AKey). k.turn) c.collect_new.ensures.key ∙ here

pub returns-clause-does : goal.returns-clause-does
returns-clause-does g c =
    connected_gives (talking c.args.self.now) (talking c.collect_new.new.self) c.collect_new.result
    (sym (ap is_connected (c.state.ensures ∙ ap (λ (s : Talked). s.voice) c.self.view_is)) ∙ (c.next_of.ensures.some c.in-Some.next c.in-Some.is).0) c.collect_new.ensures.does
