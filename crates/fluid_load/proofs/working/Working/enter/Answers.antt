use Rattle.std.proofs.Common.{refl, subst, Ok}
use Rattle.std.proofs.lemmas.Result.{err_from_is_err_and}
use Rattle.fluid_load.specs.Acting.{entered}
use Rattle.fluid_load.proofs.Said.{Entering, short_for, stops_entering, full_enters, noted_enters}
use Rattle.fluid_load.proofs.working.Working.enter.Goals as goal

pub returns-in_err-raw : goal.returns-in_err-raw
returns-in_err-raw g c =
    let e = err_from_is_err_and c.from_residual.result c.from_residual.ensures.1 in
    rw (e.1, e.2) (short_for c.args.document.now c.args.writer.now (λ client. entered client c.args.writer.now.id c.args.submission) c.args.self.now c.args.self.now refl)

pub returns-in_err-verdict : goal.returns-in_err-verdict
returns-in_err-verdict g c =
    let e = err_from_is_err_and c.from_residual-in_err-verdict.result c.from_residual-in_err-verdict.ensures.1 in
    rw (e.1, e.2) (stops_entering c.others_leave_containers.ensures c.args.document.now c.args.writer.now c.args.submission c.in_ok-raw.raw c.in_ok-raw.ensures.is c.args.self.now c.enter_raw.new.self c.enter_raw.ensures.rest c.enter_raw.ensures.limits _ c.in_err-verdict.ensures.runs c.in_err-verdict.ensures.does)

pub returns-in-None : goal.returns-in-None
returns-in-None g c = full_enters c.others_leave_containers.ensures c.args.document.now c.args.writer.now c.args.submission c.in_ok-raw.raw c.in_ok-raw.ensures.is c.args.self.now c.enter_raw.new.self c.enter_raw.ensures.rest c.enter_raw.ensures.limits
    c.in_ok-verdict.ensures.runs (subst (λ v. Entering c.args.document.now c.in_ok-raw.raw c.args.self.now c.enter_raw.new.self (Ok v)) c.in-None.is c.in_ok-verdict.ensures.does)

pub returns-in-Some : goal.returns-in-Some
returns-in-Some g c = noted_enters c.others_leave_containers.ensures c.args.document.now c.args.writer.now c.args.submission c.in_ok-raw.raw c.in_ok-raw.ensures.is c.args.self.now c.enter_raw.new.self c.enter_raw.ensures.rest c.enter_raw.ensures.limits
    c.in-Some.verdict c.note.new.self c.note.result c.in_ok-verdict.ensures.runs (subst (λ v. Entering c.args.document.now c.in_ok-raw.raw c.args.self.now c.enter_raw.new.self (Ok v)) c.in-Some.is c.in_ok-verdict.ensures.does) c.note.ensures.notes c.note.ensures.same c.note.ensures.short
