use Rattle.std.proofs.Common.{◌∙◌, is_some, IfSome, sym, ap, subst}
use Rattle.std.proofs.lemmas.Result.{err_from_is_err_and}
use Rattle.fluid_voice.specs.States.{client_id}
use Rattle.fluid_voice.specs.Fitting.{IsFitting}
use Rattle.fluid_talk.specs.Leaving.{LeavesBy, HasLeft, IsLeaveCause}
use Rattle.fluid_talk.specs.Collecting.{FailsAs}
use Rattle.fluid_connection.specs.Talked.{Talked, visited, talking}
use Rattle.fluid_connection.specs.Leaving.{EntersBy, EntersLeaving, FailsToLeave}
use Rattle.fluid_connection.proofs.Standing.{standing, has_visit, writes_joined, has_leave, leave_act, leave_act_fits, left_talk, stays_by, behind_stays, behind_refusal, behind_leave}
use Rattle.fluid_connection.proofs.talk.Talk.leave_client.Goals as goal

pub returns-in_err-act-clause-does : goal.returns-in_err-act-clause-does
returns-in_err-act-clause-does g c =
    let e = err_from_is_err_and c.from_residual.result c.from_residual.ensures.1 in
    subst (λ r. LeavesBy (talking c.args.self.now) (talking c.args.self.now) c.args.moment r) (sym e.1)
    (subst (λ f. FailsAs (talking c.args.self.now) (talking c.args.self.now) IsLeaveCause f) (sym e.2) (stays_by (talking c.args.self.now)))

pub unreachable-requires : goal.unreachable-requires
unreachable-requires g c =
    has_leave c.self.inside.voice c.args.moment (ap (λ (s : Talked). is_some (client_id s.voice)) c.self.view_is ∙ c.requires.writes) (sym c.in_default.is ∙ c.in_ok-act.ensures.leave)

pub unreachable-requires-in_default-take : goal.unreachable-requires-in_default-take
unreachable-requires-in_default-take g c =
    let t : Talked = record { voice = c.self.inside.voice; key = c.self.inside.key; visit = c.self.inside.visit; handed = c.self.inside.handed } in
    has_visit t c.self.invariant.0 (writes_joined c.self.inside.voice (ap (λ (s : Talked). is_some (client_id s.voice)) c.self.view_is ∙ c.requires.writes)) (sym c.take.ensures.value ∙ c.in_default-take.is)

pub enter_leave-visit-requires : goal.enter_leave-visit-requires
enter_leave-visit-requires g c =
    leave_act_fits c.self.inside.voice c.args.moment c.in-Some.act (sym c.in-Some.is ∙ c.in_ok-act.ensures.leave) (subst (λ o. IfSome o IsFitting) c.in-Some.is (c.in_ok-act.ensures.fit c.requires.moment))

pub invariant_of-self : goal.invariant_of-self
invariant_of-self g c =
    let t : Talked = record { voice = c.self.inside.voice; key = c.self.inside.key; visit = c.self.inside.visit; handed = c.self.inside.handed } in
    let l = leave_act c.self.inside.voice c.args.moment c.in-Some.act (sym c.in-Some.is ∙ c.in_ok-act.ensures.leave) in
    let fails : FailsToLeave (visited c.in-Some-take.visit) (visited c.enter_leave-visit.result.0) c.in_err-end.field-0.0 = subst (λ r. EntersBy (visited c.in-Some-take.visit) (visited c.enter_leave-visit.result.0) l.raw r) c.in_err-end.was (c.enter_leave-visit.ensures.does l.raw l.asks) in
    (behind_stays t c.in-Some-take.visit c.enter_leave-visit.result.0 c.self.invariant.0 (sym c.take.ensures.value ∙ c.in-Some-take.is) c.enter_leave-visit.ensures.back _ fails.goes, tt)

pub returns-in_err-end-clause-key : goal.returns-in_err-end-clause-key
returns-in_err-end-clause-key g c = ap (λ (s : Talked). s.key) c.self.view_is

pub returns-in_err-end-clause-does : goal.returns-in_err-end-clause-does
returns-in_err-end-clause-does g c =
    let t : Talked = record { voice = c.self.inside.voice; key = c.self.inside.key; visit = c.self.inside.visit; handed = c.self.inside.handed } in
    let u : Talked = standing c.self.inside.voice c.self.inside.key c.enter_leave-visit.result.0 c.self.inside.handed in
    let l = leave_act c.self.inside.voice c.args.moment c.in-Some.act (sym c.in-Some.is ∙ c.in_ok-act.ensures.leave) in
    let fails : FailsToLeave (visited c.in-Some-take.visit) (visited c.enter_leave-visit.result.0) c.in_err-end.field-0.0 = subst (λ r. EntersBy (visited c.in-Some-take.visit) (visited c.enter_leave-visit.result.0) l.raw r) c.in_err-end.was (c.enter_leave-visit.ensures.does l.raw l.asks) in
    let e = err_from_is_err_and c.from_residual-in_err-end.result c.from_residual-in_err-end.ensures.1 in
    subst (λ r. LeavesBy (talking c.args.self.now) (talking u) c.args.moment r) (sym e.1)
    (subst (λ f. FailsAs (talking c.args.self.now) (talking u) IsLeaveCause f) (sym e.2)
    (subst (λ (s : Talked). FailsAs (talking s) (talking u) IsLeaveCause c.in_err-end.field-0.0) c.self.view_is
    (behind_refusal t c.in-Some-take.visit c.enter_leave-visit.result.0 c.self.invariant.0 (sym c.take.ensures.value ∙ c.in-Some-take.is) c.enter_leave-visit.ensures.back c.in_err-end.field-0.0 fails)))

pub take_leave-requires : goal.take_leave-requires
take_leave-requires g c =
    let l = leave_act c.self.inside.voice c.args.moment c.in-Some.act (sym c.in-Some.is ∙ c.in_ok-act.ensures.leave) in
    let enters : EntersLeaving (visited c.in-Some-take.visit) (visited c.enter_leave-visit.result.0) l.raw c.in_ok-end.end = subst (λ r. EntersBy (visited c.in-Some-take.visit) (visited c.enter_leave-visit.result.0) l.raw r) c.in_ok-end.was (c.enter_leave-visit.ensures.does l.raw l.asks) in
    enters.entered

pub invariant_of-self-2 : goal.invariant_of-self-2
invariant_of-self-2 g c = (left_talk (standing c.take_leave.new.voice c.self.inside.key c.enter_leave-visit.result.0 c.self.inside.handed) c.take_leave.ensures, tt)

pub returns-clause-key : goal.returns-clause-key
returns-clause-key g c = ap (λ (s : Talked). s.key) c.self.view_is

pub returns-clause-does : goal.returns-clause-does
returns-clause-does g c =
    let t : Talked = record { voice = c.self.inside.voice; key = c.self.inside.key; visit = c.self.inside.visit; handed = c.self.inside.handed } in
    let u : Talked = standing c.take_leave.new.voice c.self.inside.key c.enter_leave-visit.result.0 c.self.inside.handed in
    let l = leave_act c.self.inside.voice c.args.moment c.in-Some.act (sym c.in-Some.is ∙ c.in_ok-act.ensures.leave) in
    let enters : EntersLeaving (visited c.in-Some-take.visit) (visited c.enter_leave-visit.result.0) l.raw c.in_ok-end.end = subst (λ r. EntersBy (visited c.in-Some-take.visit) (visited c.enter_leave-visit.result.0) l.raw r) c.in_ok-end.was (c.enter_leave-visit.ensures.does l.raw l.asks) in
    subst (λ (s : Talked). HasLeft (talking s) (talking u) c.args.moment) c.self.view_is
    (behind_leave t c.in-Some-take.visit c.enter_leave-visit.result.0 c.self.invariant.0 (sym c.take.ensures.value ∙ c.in-Some-take.is) c.enter_leave-visit.ensures.back c.take_leave.new.voice l.raw c.args.moment c.in_ok-end.end c.take_leave.ensures l.leave enters)
