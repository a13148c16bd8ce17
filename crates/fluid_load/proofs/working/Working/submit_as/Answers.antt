use Rattle.std.proofs.Common.{sym, subst, ◌∙◌}
use Rattle.std.proofs.lemmas.Result.{err_from_is_err_and}
use Rattle.fluid_load.specs.Acting.{said}
use Rattle.fluid_load.specs.Standing.{CanWork}
use Rattle.fluid_load.proofs.Said.{short_for, nothing_says, enters_says}
use Rattle.fluid_load.proofs.working.Working.submit_as.Goals as goal

pub returns-in_err-submission : goal.returns-in_err-submission
returns-in_err-submission g c =
    let e = err_from_is_err_and c.from_residual.result c.from_residual.ensures.1 in
    rw (e.1, e.2) (short_for c.args.document.now c.args.writer.now (λ client. said client c.args.saying.now) c.args.self.now c.submission.new.self c.submission.ensures.same)

pub returns-in-None : goal.returns-in-None
returns-in-None g c = nothing_says c.args.document.now c.args.writer.now c.args.saying.now c.args.self.now c.submission.new.self c.submission.ensures.same
    (λ w client goes at is. sym c.in-None.is ∙ c.in_ok-submission.ensures.is w client goes at is)

pub enter-requires : goal.enter-requires
enter-requires g c = subst (CanWork 1) (sym c.submission.ensures.same) c.requires.can

pub returns-in-Some : goal.returns-in-Some
returns-in-Some g c = enters_says c.args.document.now c.args.writer.now c.args.saying.now c.in-Some.submission c.args.self.now c.submission.new.self c.enter.new.self c.enter.result c.submission.ensures.same
    (λ w client goes at is. sym c.in-Some.is ∙ c.in_ok-submission.ensures.is w client goes at is) c.enter.ensures
