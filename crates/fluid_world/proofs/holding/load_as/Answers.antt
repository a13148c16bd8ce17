use Rattle.std.proofs.Common.{refl, sym, ap, subst, ◌∙◌, Ok}
use Rattle.std.proofs.lemmas.Result.{err_from_is_err_and}
use Rattle.std.specs.FinMap.{get, insert}
use Rattle.fluid_table.proofs.Places.{get_own}
use Rattle.fluid_steps.specs.declared.steps.Step.TheVariants as step
use Rattle.fluid_transcript.specs.Transcript.{done}
use Rattle.fluid_world.specs.Standing.{StepTakes}
use Rattle.std.proofs.Common.{◌+◌}
use Rattle.fluid_world.specs.Naming.{AreBounded, named_for}
use Rattle.fluid_desk.specs.declared.stop.Stop.TheVariants.{NoMemory}
use Rattle.fluid_desk.proofs.Honest.{may_want}
use Rattle.fluid_desk.proofs.Running.{run_more}
use Rattle.fluid_world.proofs.Linked.{wanting_links, one_links}
use Rattle.fluid_world.proofs.Stepped.{none_there, new_none, load_takes, given_stay, loaded_counted, counted_ok}
use Rattle.fluid_world.proofs.holding.load_as.Goals as goal

pub returns-clause-does : goal.returns-clause-does
returns-clause-does g c = λ w good stands at.
    let names = c.args.names.now.table.values in
    let s = step.Load c.args.name c.args.document.now c.args.pick.now in
    let none = none_there w (get names c.args.name) (get w.names c.args.name) (new_none (get names c.args.name) c.requires.1.1.1.1.1) (stands.named c.args.name) in
    let given = c.give.ensures ∙ ap (λ n. insert c.reserve.new.self.table.values c.args.name n) c.named_for.ensures ∙ ap (λ t. insert t c.args.name (named_for c.in_ok-line.loaded)) c.in_ok-reserve.ensures.same in
    subst (λ t. StepTakes (done c.args.lanes.now.limits w s) c.load.new.lanes c.load.new.objects t c.one.result) (sym given)
    (load_takes c.args.lanes.now.limits w s c.args.lanes.now c.args.objects.now names stands c.requires.1.1.1.1.1 c.steps_leave_others.ensures.others c.others_leave_containers.ensures c.containers_stay_based.ensures c.args.name
    (insert names c.args.name (named_for c.in_ok-line.loaded)) c.in_ok-line.loaded c.load.new.lanes c.load.new.objects c.in_ok-line.line c.one.result refl
    (given_stay names c.args.name (named_for c.in_ok-line.loaded)) (get_own names c.args.name (named_for c.in_ok-line.loaded))
    (c.in_ok-line.ensures.does w good stands.desk stands.held stands.sound at none) c.one.ensures)

pub returns-clause-runs : goal.returns-clause-runs
returns-clause-runs g c = λ first steps run. one_links first (steps + 1) c.args.objects.now c.load.new.objects c.load.new.lanes (Ok c.in_ok-line.line) c.one.result (c.in_ok-line.ensures.runs first steps run) c.one.ensures

pub returns-clause-numbers : goal.returns-clause-numbers
returns-clause-numbers g c = counted_ok c.one.result (λ n few.
    let names = c.args.names.now.table.values in
    let given = c.give.ensures ∙ ap (λ n. insert c.reserve.new.self.table.values c.args.name n) c.named_for.ensures ∙ ap (λ t. insert t c.args.name (named_for c.in_ok-line.loaded)) c.in_ok-reserve.ensures.same in
    subst (AreBounded (n + 1)) (sym given) (loaded_counted names c.args.name c.in_ok-line.loaded n c.in_ok-line.ensures.fresh few))

pub returns-in_err-line-clause-runs : goal.returns-in_err-line-clause-runs
returns-in_err-line-clause-runs g c = λ first steps run.
    let e = err_from_is_err_and c.from_residual-in_err-line.result c.from_residual-in_err-line.ensures.1 in rw (e.1, e.2) (c.in_err-line.ensures.runs first steps run)

pub returns-in_err-line-clause-does : goal.returns-in_err-line-clause-does
returns-in_err-line-clause-does g c = λ w good stands at.
    let names = c.args.names.now.table.values in
    let none = none_there w (get names c.args.name) (get w.names c.args.name) (new_none (get names c.args.name) c.requires.1.1.1.1.1) (stands.named c.args.name) in
    let e = err_from_is_err_and c.from_residual-in_err-line.result c.from_residual-in_err-line.ensures.1 in rw (e.1, e.2) (c.in_err-line.ensures.does w good stands.desk stands.held stands.sound at none)

pub returns-in_err-reserve-clause-does : goal.returns-in_err-reserve-clause-does
returns-in_err-reserve-clause-does g c = λ w good stands at.
    let e = err_from_is_err_and c.from_residual.result c.from_residual.ensures.1 in
    rw (e.1, e.2) (may_want (done c.args.lanes.now.limits w (step.Load c.args.name c.args.document.now c.args.pick.now)).world c.args.lanes.now NoMemory refl)

pub returns-in_err-reserve-clause-runs : goal.returns-in_err-reserve-clause-runs
returns-in_err-reserve-clause-runs g c = λ first steps run.
    let e = err_from_is_err_and c.from_residual.result c.from_residual.ensures.1 in
    rw (e.1, e.2) (wanting_links first (steps + 1) c.args.objects.now c.args.objects.now c.args.lanes.now (run_more first steps c.args.lanes.now run) NoMemory refl)
