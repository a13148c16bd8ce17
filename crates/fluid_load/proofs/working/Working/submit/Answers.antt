use Rattle.std.proofs.Common.{subst}
use Rattle.std.proofs.lemmas.Result.{err_from_is_err_and}
use Rattle.fluid_turns.specs.Saying.{IsWriter}
use Rattle.fluid_load.specs.Acting.{said}
use Rattle.fluid_load.proofs.Parts.{short_works}
use Rattle.fluid_load.proofs.Said.{nobody_works, somebody_works}
use Rattle.fluid_load.proofs.working.Working.submit.Goals as goal

pub returns-in_err-name : goal.returns-in_err-name
returns-in_err-name g c =
    let e = err_from_is_err_and c.from_residual.result c.from_residual.ensures.1 in
    rw (e.1, e.2) (short_works 1 (said c.args.client c.args.saying) c.args.self.now)

pub returns-in_err-document : goal.returns-in_err-document
returns-in_err-document g c =
    let e = err_from_is_err_and c.from_residual-in_err-document.result c.from_residual-in_err-document.ensures.1 in
    rw (e.1, e.2) (short_works 1 (said c.args.client c.args.saying) c.args.self.now)

pub returns-in_err-writer : goal.returns-in_err-writer
returns-in_err-writer g c =
    let e = err_from_is_err_and c.from_residual-in_err-writer.result c.from_residual-in_err-writer.ensures.1 in
    rw (e.1, e.2) (short_works 1 (said c.args.client c.args.saying) c.args.self.now)

pub returns : goal.returns
returns g c = nobody_works c.args.client c.args.saying c.args.self.now (λ w goes.
    subst (IsWriter w.world c.args.client) c.in-None.is (c.in_ok-writer.ensures w c.args.client goes.stands c.in_ok-name.ensures c.in_ok-document.ensures))

pub returns-in-Some : goal.returns-in-Some
returns-in-Some g c = somebody_works c.args.client c.args.saying c.in_ok-document.document c.in-Some.writer c.args.self.now c.submit_as.new.self c.submit_as.result c.in_ok-document.ensures
    (λ w goes. subst (IsWriter w.world c.args.client) c.in-Some.is (c.in_ok-writer.ensures w c.args.client goes.stands c.in_ok-name.ensures c.in_ok-document.ensures)) c.submit_as.ensures
