use Rattle.std.proofs.Common.{ap, subst, ◌∙◌}
use Rattle.std.proofs.lemmas.Int.{to_z-of_z}
use Rattle.fluid_edits.specs.declared.edit.Edit.TheVariants as edit
use Rattle.fluid_workload.specs.Working.{n}
use Rattle.std.proofs.lemmas.Result.{err_from_is_err_and}
use Rattle.fluid_gen.specs.declared.act.Act.TheVariants as gen
use Rattle.fluid_turns.specs.declared.saying.Saying.TheVariants as say
use Rattle.fluid_load.specs.Standing.{Works}
use Rattle.fluid_load.specs.Acting.{said, acted}
use Rattle.fluid_load.proofs.Parts.{short_works}
use Rattle.fluid_load.proofs.working.Working.increment.Goals as goal

pub returns-in_err-edit : goal.returns-in_err-edit
returns-in_err-edit g c =
    let e = err_from_is_err_and c.from_residual.result c.from_residual.ensures.1 in
    rw (e.1, e.2) (short_works 1 (acted (gen.Increment c.args.client c.args.amount)) c.args.self.now)

pub returns : goal.returns
returns g c = subst (λ e. Works 1 (said c.args.client (say.Op e)) c.args.self.now c.submit.new.self c.submit.result) (c.in_ok-edit.ensures.made ∙ ap (edit.Increment n) (to_z-of_z _ _ c.ranges.amount)) c.submit.ensures
