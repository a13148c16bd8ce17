use Rattle.std.proofs.Common.{◌+◌, refl, sym, ap, subst, ◌∙◌, Ok, arith}
use Rattle.std.proofs.lemmas.Result.{err_from_is_err_and}
use Rattle.std.specs.FinMap.{get, insert}
use Rattle.fluid_table.proofs.Places.{get_own}
use Rattle.fluid_steps.specs.declared.steps.Step.TheVariants as step
use Rattle.fluid_transcript.specs.Transcript.{done}
use Rattle.fluid_desk.specs.declared.stop.Stop.TheVariants.{NoMemory}
use Rattle.fluid_desk.proofs.Honest.{may_want}
use Rattle.fluid_desk.proofs.Running.{run_more}
use Rattle.fluid_world.specs.Standing.{StepTakes}
use Rattle.fluid_world.specs.Naming.{AreBounded, named_by}
use Rattle.fluid_world.proofs.Linked.{reading_links, reading_stops, wanting_links, one_links}
use Rattle.fluid_world.proofs.Stepped.{none_there, new_none, roam_takes, given_stay, roamed_bounded, counted_ok}
use Rattle.fluid_world.proofs.roaming.roam_as.Goals as goal

pub returns-clause-does : goal.returns-clause-does
returns-clause-does g c = λ w stands at.
    let names = c.args.names.now.table.values in
    let s = step.Roam c.args.name c.args.document.now in
    let none = none_there w (get names c.args.name) (get w.names c.args.name) (new_none (get names c.args.name) c.requires.accepted) (stands.named c.args.name) in
    let given = c.give.ensures ∙ ap (λ n. insert c.reserve.new.self.table.values c.args.name n) c.named_by.ensures ∙ ap (λ t. insert t c.args.name (named_by c.in_ok-line.made)) c.in_ok-reserve.ensures.same in
    subst (λ t. StepTakes (done c.args.lanes.now.limits w s) c.roam.new.lanes c.roam.new.objects t c.one.result) (sym given)
    (subst (λ o. StepTakes (done c.args.lanes.now.limits w s) c.roam.new.lanes o (insert names c.args.name (named_by c.in_ok-line.made)) c.one.result) (sym c.in_ok-line.ensures.store)
    (roam_takes c.args.lanes.now.limits w s c.args.lanes.now c.args.objects.now names stands c.requires.accepted c.steps_leave_others.ensures.others c.others_leave_containers.ensures c.containers_stay_based.ensures c.args.name
    (insert names c.args.name (named_by c.in_ok-line.made)) c.in_ok-line.made c.roam.new.lanes c.in_ok-line.line c.one.result refl tt c.steps_leave_others.ensures.store
    (given_stay names c.args.name (named_by c.in_ok-line.made)) (get_own names c.args.name (named_by c.in_ok-line.made))
    (c.in_ok-line.ensures.does w stands.desk stands.sound at none) c.one.ensures))

pub returns-clause-runs : goal.returns-clause-runs
returns-clause-runs g c = λ first steps run. one_links first (steps + 1) c.args.objects.now c.roam.new.objects c.roam.new.lanes (Ok c.in_ok-line.line) c.one.result
    (reading_links first (steps + 1) c.args.objects.now c.roam.new.objects c.roam.new.lanes (Ok c.in_ok-line.line) (c.in_ok-line.ensures.runs first steps run)) c.one.ensures

pub returns-clause-numbers : goal.returns-clause-numbers
returns-clause-numbers g c = counted_ok c.one.result (λ n few.
    let names = c.args.names.now.table.values in
    let given = c.give.ensures ∙ ap (λ n. insert c.reserve.new.self.table.values c.args.name n) c.named_by.ensures ∙ ap (λ t. insert t c.args.name (named_by c.in_ok-line.made)) c.in_ok-reserve.ensures.same in
    subst (AreBounded (n + 1)) (sym given) (roamed_bounded names c.args.name c.in_ok-line.made n c.in_ok-line.ensures.kept few))

pub returns-in_err-line-clause-runs : goal.returns-in_err-line-clause-runs
returns-in_err-line-clause-runs g c = λ first steps run.
    let e = err_from_is_err_and c.from_residual-in_err-line.result c.from_residual-in_err-line.ensures.1 in
    rw (e.1, e.2) (reading_stops first (steps + 1) c.args.objects.now c.roam.new.objects c.roam.new.lanes c.in_err-line.field-0.0 (c.in_err-line.ensures.runs first steps run))

pub returns-in_err-line-clause-does : goal.returns-in_err-line-clause-does
returns-in_err-line-clause-does g c = λ w stands at.
    let names = c.args.names.now.table.values in
    let none = none_there w (get names c.args.name) (get w.names c.args.name) (new_none (get names c.args.name) c.requires.accepted) (stands.named c.args.name) in
    let e = err_from_is_err_and c.from_residual-in_err-line.result c.from_residual-in_err-line.ensures.1 in rw (e.1, e.2) (c.in_err-line.ensures.does w stands.desk stands.sound at none)

pub returns-in_err-reserve-clause-does : goal.returns-in_err-reserve-clause-does
returns-in_err-reserve-clause-does g c = λ w stands at.
    let e = err_from_is_err_and c.from_residual.result c.from_residual.ensures.1 in
    rw (e.1, e.2) (may_want (done c.args.lanes.now.limits w (step.Roam c.args.name c.args.document.now)).world c.args.lanes.now NoMemory refl)

pub returns-in_err-reserve-clause-runs : goal.returns-in_err-reserve-clause-runs
returns-in_err-reserve-clause-runs g c = λ first steps run.
    let e = err_from_is_err_and c.from_residual.result c.from_residual.ensures.1 in
    rw (e.1, e.2) (wanting_links first (steps + 1) c.args.objects.now c.args.objects.now c.args.lanes.now (run_more first steps c.args.lanes.now run) NoMemory refl)

pub returns-clause-counts : goal.returns-clause-counts
returns-clause-counts g c = omega (arith, ap (λ o. o.faults) c.in_ok-line.ensures.store)

pub returns-in_err-line-clause-counts : goal.returns-in_err-line-clause-counts
returns-in_err-line-clause-counts g c = omega (arith, ap (λ o. o.faults) c.in_err-line.ensures.store)
