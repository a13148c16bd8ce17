use Rattle.std.proofs.Common.{sym, subst}
use Rattle.std.proofs.lemmas.Result.{err_from_is_err_and}
use Rattle.fluid_containers.specs.Stepping.{IsShort}
use Rattle.fluid_load.specs.Standing.{Works}
use Rattle.fluid_load.specs.Acting.{edited, with_counter}
use Rattle.fluid_load.proofs.Parts.{short_works}
use Rattle.fluid_load.proofs.Attached.{counter_short}
use Rattle.fluid_load.proofs.working.Working.attach_counter.Goals as goal

pub edit-requires-clause-short : goal.edit-requires-clause-short
edit-requires-clause-short g c = subst IsShort (sym c.in_ok-edit.ensures) counter_short

pub returns-in_err-edit : goal.returns-in_err-edit
returns-in_err-edit g c =
    let e = err_from_is_err_and c.from_residual.result c.from_residual.ensures.1 in
    rw (e.1, e.2) (short_works 1 with_counter c.args.self.now)

pub returns : goal.returns
returns g c = subst (λ e. Works 1 (edited e) c.args.self.now c.edit.new.self c.edit.result) c.in_ok-edit.ensures c.edit.ensures
