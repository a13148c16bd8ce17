use Rattle.std.proofs.Common.{subst}
use Rattle.std.proofs.lemmas.Result.{err_from_is_err_and}
use Rattle.fluid_gen.specs.declared.act.Act.TheVariants as gen
use Rattle.fluid_turns.specs.declared.saying.Saying.TheVariants as say
use Rattle.fluid_load.specs.Standing.{Works}
use Rattle.fluid_load.specs.Acting.{said, acted}
use Rattle.fluid_load.proofs.Parts.{short_works}
use Rattle.fluid_load.proofs.working.Working.delete.Goals as goal

pub returns-in_err-edit : goal.returns-in_err-edit
returns-in_err-edit g c =
    let e = err_from_is_err_and c.from_residual.result c.from_residual.ensures.1 in
    rw (e.1, e.2) (short_works 1 (acted (gen.Delete c.args.client c.args.key)) c.args.self.now)

pub returns : goal.returns
returns g c = subst (λ e. Works 1 (said c.args.client (say.Op e)) c.args.self.now c.submit.new.self c.submit.result) c.in_ok-edit.ensures.made c.submit.ensures
