use Rattle.std.proofs.Common.{◌≡◌, ◌∙◌, ◌<◌, ◌≤◌, true, refl, sym, ap, subst}
use Rattle.std.proofs.lemmas.Result.{err_from_is_err_and}
use Rattle.fluid_voice.specs.States.{is_connected, next_number}
use Rattle.fluid_talk.specs.Talking.{number_behind_last}
use Rattle.fluid_talk.specs.Collecting.{CollectsBy, Feeds, FailsAs, IsCollectCause}
use Rattle.fluid_connection.specs.Talked.{Talked, visited, talking}
use Rattle.fluid_connection.specs.Slices.{CollectsAll, BringsAll, FailsToCollect}
use Rattle.fluid_connection.proofs.Standing.{standing, has_visit, visit_within, behind_stays, behind_fault, behind_talk, behind_delivered, behind_feeds}
use Rattle.fluid_connection.proofs.talk.Talk.collect_new.Goals as goal

pub unreachable-requires : goal.unreachable-requires
unreachable-requires g c =
    let t : Talked = record { voice = c.self.inside.voice; key = c.self.inside.key; visit = c.self.inside.visit; handed = c.self.inside.handed } in
    has_visit t c.self.invariant.0 (ap (λ (s : Talked). is_connected s.voice) c.self.view_is ∙ c.requires.connected) (sym c.take.ensures.value ∙ c.in_default.is)

pub collect_all-visit-requires-clause-first : goal.collect_all-visit-requires-clause-first
collect_all-visit-requires-clause-first g c =
    subst (λ n. 0 < n) (ap (λ (s : Talked). next_number s.voice) c.self.view_is ∙ sym c.requires.next)
    (c.self.invariant.0.first (ap (λ (s : Talked). is_connected s.voice) c.self.view_is ∙ c.requires.connected))

pub collect_all-visit-requires-clause-within : goal.collect_all-visit-requires-clause-within
collect_all-visit-requires-clause-within g c =
    let t : Talked = record { voice = c.self.inside.voice; key = c.self.inside.key; visit = c.self.inside.visit; handed = c.self.inside.handed } in
    subst (λ n. c.in-Some.visit.pass.turn.fixed.told ≡ true → n ≤ number_behind_last c.in-Some.visit.pass.seen) (ap (λ (s : Talked). next_number s.voice) c.self.view_is ∙ sym c.requires.next)
    (visit_within t c.in-Some.visit c.self.invariant.0 (ap (λ (s : Talked). is_connected s.voice) c.self.view_is ∙ c.requires.connected) (sym c.take.ensures.value ∙ c.in-Some.is))

pub invariant_of-self : goal.invariant_of-self
invariant_of-self g c =
    let t : Talked = record { voice = c.self.inside.voice; key = c.self.inside.key; visit = c.self.inside.visit; handed = c.self.inside.handed } in
    let fails : FailsToCollect (visited c.in-Some.visit) (visited c.collect_all-visit.result.0) c.in_err-events.field-0.0 =
    subst (λ r. CollectsAll c.in-Some.visit.door.name (visited c.in-Some.visit) (visited c.collect_all-visit.result.0) c.args.next r) c.in_err-events.was c.collect_all-visit.ensures.does in
    (behind_stays t c.in-Some.visit c.collect_all-visit.result.0 c.self.invariant.0 (sym c.take.ensures.value ∙ c.in-Some.is) c.collect_all-visit.ensures.back _ fails.goes, tt)

pub returns-in_err-events-clause-key : goal.returns-in_err-events-clause-key
returns-in_err-events-clause-key g c = ap (λ (s : Talked). s.key) c.self.view_is

pub returns-in_err-events-clause-does : goal.returns-in_err-events-clause-does
returns-in_err-events-clause-does g c =
    let t : Talked = record { voice = c.self.inside.voice; key = c.self.inside.key; visit = c.self.inside.visit; handed = c.self.inside.handed } in
    let u : Talked = standing c.self.inside.voice c.self.inside.key c.collect_all-visit.result.0 c.self.inside.handed in
    let fails : FailsToCollect (visited c.in-Some.visit) (visited c.collect_all-visit.result.0) c.in_err-events.field-0.0 =
    subst (λ r. CollectsAll c.in-Some.visit.door.name (visited c.in-Some.visit) (visited c.collect_all-visit.result.0) c.args.next r) c.in_err-events.was c.collect_all-visit.ensures.does in
    let e = err_from_is_err_and c.from_residual.result c.from_residual.ensures.1 in
    subst (λ r. CollectsBy (talking c.args.self.now) (talking u) r) (sym e.1)
    (subst (λ f. FailsAs (talking c.args.self.now) (talking u) IsCollectCause f) (sym e.2)
    (subst (λ (s : Talked). FailsAs (talking s) (talking u) IsCollectCause c.in_err-events.field-0.0) c.self.view_is
    (behind_fault t c.in-Some.visit c.collect_all-visit.result.0 c.self.invariant.0 (sym c.take.ensures.value ∙ c.in-Some.is) c.collect_all-visit.ensures.back c.in_err-events.field-0.0 fails)))

pub invariant_of-self-2 : goal.invariant_of-self-2
invariant_of-self-2 g c =
    let t : Talked = record { voice = c.self.inside.voice; key = c.self.inside.key; visit = c.self.inside.visit; handed = c.self.inside.handed } in
    let joined : is_connected c.self.inside.voice ≡ true = ap (λ (s : Talked). is_connected s.voice) c.self.view_is ∙ c.requires.connected in
    let all : BringsAll c.in-Some.visit.door.name (visited c.in-Some.visit) (visited c.collect_all-visit.result.0) (next_number c.self.inside.voice) c.in_ok-events.field-0 =
    subst (λ n. BringsAll c.in-Some.visit.door.name (visited c.in-Some.visit) (visited c.collect_all-visit.result.0) n c.in_ok-events.field-0) (c.requires.next ∙ sym (ap (λ (s : Talked). next_number s.voice) c.self.view_is))
    (subst (λ r. CollectsAll c.in-Some.visit.door.name (visited c.in-Some.visit) (visited c.collect_all-visit.result.0) c.args.next r) c.in_ok-events.was c.collect_all-visit.ensures.does) in (
      behind_talk t c.in-Some.visit c.collect_all-visit.result.0 c.self.invariant.0 (sym c.take.ensures.value ∙ c.in-Some.is) c.collect_all-visit.ensures.back joined c.in_ok-events.field-0 all c.advance.new.self c.advance.ensures,
      behind_delivered t c.in-Some.visit c.collect_all-visit.result.0 c.self.invariant.0 (sym c.take.ensures.value ∙ c.in-Some.is) c.collect_all-visit.ensures.back joined c.in_ok-events.field-0 all c.advance.new.self c.advance.ensures c.in_ok-events.field-0.steps,
    )

pub returns-clause-key : goal.returns-clause-key
returns-clause-key g c = ap (λ (s : Talked). s.key) c.self.view_is

pub returns-clause-does : goal.returns-clause-does
returns-clause-does g c =
    let t : Talked = record { voice = c.self.inside.voice; key = c.self.inside.key; visit = c.self.inside.visit; handed = c.self.inside.handed } in
    let u : Talked = standing c.advance.new.self c.self.inside.key c.collect_all-visit.result.0 c.self.inside.handed in
    let joined : is_connected c.self.inside.voice ≡ true = ap (λ (s : Talked). is_connected s.voice) c.self.view_is ∙ c.requires.connected in
    let all : BringsAll c.in-Some.visit.door.name (visited c.in-Some.visit) (visited c.collect_all-visit.result.0) (next_number c.self.inside.voice) c.in_ok-events.field-0 =
    subst (λ n. BringsAll c.in-Some.visit.door.name (visited c.in-Some.visit) (visited c.collect_all-visit.result.0) n c.in_ok-events.field-0) (c.requires.next ∙ sym (ap (λ (s : Talked). next_number s.voice) c.self.view_is))
    (subst (λ r. CollectsAll c.in-Some.visit.door.name (visited c.in-Some.visit) (visited c.collect_all-visit.result.0) c.args.next r) c.in_ok-events.was c.collect_all-visit.ensures.does) in
    subst (λ (s : Talked). Feeds (talking s) (talking u) c.in_ok-events.field-0.events) c.self.view_is
    (behind_feeds t c.in-Some.visit c.collect_all-visit.result.0 c.self.invariant.0 (sym c.take.ensures.value ∙ c.in-Some.is) c.collect_all-visit.ensures.back joined c.in_ok-events.field-0 all c.advance.new.self c.advance.ensures c.in_ok-events.field-0.events refl)
