use Rattle.std.proofs.Common.{Ok, Err, ap, subst, ◌∙◌, refl}
use Rattle.std.specs.Prelude.{IfSome}
use Rattle.fluid_turn.specs.Entries.{entries}
use Rattle.fluid_opening.specs.declared.fault.DoorFault.TheVariants.{NoMemory}
use Rattle.fluid_service.specs.Visiting.{Visiting, IsFound}
use Rattle.fluid_opening.specs.Steps.{is_opened, visit_steps}
use Rattle.fluid_service.specs.Shelved.{terms_of, is_open}
use Rattle.fluid_service.specs.Keys.{Serving, Passes, IsVisitOf, Reaches}
use Rattle.fluid_service.proofs.Standings.{open_is}
use Rattle.fluid_service.proofs.Passages.{reaches_open, reaches_new, found_true, found_false, found_err}
use Rattle.fluid_service.proofs.service.Service.door.Goals as goal

pub open_new-requires-clause-closed : goal.open_new-requires-clause-closed
open_new-requires-clause-closed g c =
    let h = c.take_noted-held in
    let says = subst (λ o. IsFound (is_opened c.args.name.now (entries h.result.place.list)) (Ok o)) c.in-Ok-None.field-0-is (c.in-Ok-None.ensures.says (entries h.result.place.list) h.ensures.stands) in
    ap (is_open c.args.name.now) c.find.ensures.same ∙ open_is h.result.value (entries h.result.place.list) c.args.name.now h.ensures.stands ∙ found_false Visiting _ says

pub returns-in-Ok-Some : goal.returns-in-Ok-Some
returns-in-Ok-Some g c =
    let h = c.take_noted-held in
    let says = subst (λ o. IsFound (is_opened c.args.name.now (entries h.result.place.list)) (Ok o)) c.in-Ok-Some.field-0-is (c.in-Ok-Some.ensures.says (entries h.result.place.list) h.ensures.stands) in
    let visit = subst (λ o. IfSome o (IsVisitOf (terms_of h.result.value) c.args.name.now)) c.in-Ok-Some.field-0-is c.in-Ok-Some.ensures.visit in
    subst (λ t. Passes c.args.key c.close.result (visit_steps c.args.name.now (Ok c.in-Ok-Some.visit)) (Reaches t c.args.name.now (Ok c.in-Ok-Some.visit))) (c.take_noted-held.ensures.fixed ∙ ap (λ (t : Serving). t.fixed) c.self.view_is)
    (reaches_open (terms_of h.result.value) c.args.name.now c.args.key c.close.result h.result.place.seat h.result.place.list h.ensures.seat c.close.ensures.few h.ensures.list (Ok c.in-Ok-Some.visit) (found_true _ c.in-Ok-Some.visit says) c.close.ensures.key tt visit)

pub returns-in-Ok-None : goal.returns-in-Ok-None
returns-in-Ok-None g c =
    let h = c.take_noted-held in
    let says = subst (λ o. IsFound (is_opened c.args.name.now (entries h.result.place.list)) (Ok o)) c.in-Ok-None.field-0-is (c.in-Ok-None.ensures.says (entries h.result.place.list) h.ensures.stands) in
    let answer = rw c.find.ensures.same at c.open_new.ensures.answer in
    subst (λ t. Passes c.args.key c.open_new.result.0 (visit_steps c.args.name.now c.open_new.result.1) (Reaches t c.args.name.now c.open_new.result.1)) (c.take_noted-held.ensures.fixed ∙ ap (λ (t : Serving). t.fixed) c.self.view_is)
    (reaches_new (terms_of h.result.value) c.args.name.now c.args.key c.open_new.result.0 h.result.place.seat h.result.place.list h.ensures.seat c.open_new.ensures.few h.ensures.list c.open_new.result.1 (found_false Visiting _ says) c.open_new.ensures.key answer)

pub returns-in-Err : goal.returns-in-Err
returns-in-Err g c =
    let h = c.take_noted-held in
    subst (λ t. Passes c.args.key c.close-in-Err.result (visit_steps c.args.name.now (Err NoMemory)) (Reaches t c.args.name.now (Err NoMemory))) (c.take_noted-held.ensures.fixed ∙ ap (λ (t : Serving). t.fixed) c.self.view_is)
    (reaches_open (terms_of h.result.value) c.args.name.now c.args.key c.close-in-Err.result h.result.place.seat h.result.place.list h.ensures.seat c.close-in-Err.ensures.few h.ensures.list (Err NoMemory)
    (found_err Visiting _ c.in-Err.field-0 (c.in-Err.ensures.says (entries h.result.place.list) h.ensures.stands)) c.close-in-Err.ensures.key refl tt)
