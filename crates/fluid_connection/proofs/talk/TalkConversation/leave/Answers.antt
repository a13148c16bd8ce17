use Rattle.std.proofs.Common.{◌∙◌, is_some, Ok, sym, ap, subst}
use Rattle.fluid_voice.specs.declared.states.VoiceState.{VoiceState}
use Rattle.fluid_voice.specs.States.{client_id}
use Rattle.fluid_talk.specs.Leaving.{Leaves}
use Rattle.fluid_service.specs.Keys.{AKey}
use Rattle.fluid_connection.specs.Talked.{Talked, talking}
use Rattle.fluid_connection.proofs.Standing.{left_talk, leaves_at_once, client_leaves}
use Rattle.fluid_connection.proofs.talk.TalkConversation.leave.Goals as goal

pub leave_client-requires-clause-writes : goal.leave_client-requires-clause-writes
leave_client-requires-clause-writes g c =
    sym (ap (λ (s : Talked). is_some (client_id s.voice)) c.self.view_is) ∙ sym c.writes.ensures.is ∙ c.if-writes.true

pub returns-then-writes-clause-service : goal.returns-then-writes-clause-service
returns-then-writes-clause-service g c = λ x here. ap (λ (k : AKey). k.turn) c.leave_client.ensures.key ∙ here

pub returns-then-writes-clause-does : goal.returns-then-writes-clause-does
returns-then-writes-clause-does g c =
    client_leaves (talking c.args.self.now) (talking c.leave_client.new.self) c.args.moment c.leave_client.result
    (sym (ap (λ (s : Talked). is_some (client_id s.voice)) c.self.view_is) ∙ sym c.writes.ensures.is ∙ c.if-writes.true) c.leave_client.ensures.does

pub close-requires : goal.close-requires
close-requires g c = c.writes.ensures.none c.if-writes.false

pub invariant_of-self : goal.invariant_of-self
invariant_of-self g c =
    let u : Talked = record { voice = c.close.new.self; key = c.self.inside.key; visit = c.self.inside.visit; handed = c.self.inside.handed } in
    (left_talk u c.close.ensures, tt)

pub returns-clause-service : goal.returns-clause-service
returns-clause-service g c = λ x here. ap (λ (s : Talked). s.key.turn) c.self.view_is ∙ here

pub returns-clause-does : goal.returns-clause-does
returns-clause-does g c =
    let t : Talked = record { voice = c.self.inside.voice; key = c.self.inside.key; visit = c.self.inside.visit; handed = c.self.inside.handed } in
    let u : Talked = record { voice = c.close.new.self; key = c.self.inside.key; visit = c.self.inside.visit; handed = c.self.inside.handed } in
    subst (λ (s : Talked). Leaves (talking s) (talking u) c.args.moment (Ok tt)) c.self.view_is
    (leaves_at_once t u c.args.moment (c.writes.ensures.none c.if-writes.false) (ap (λ (v : VoiceState). record t { voice = v }) c.close.ensures))
