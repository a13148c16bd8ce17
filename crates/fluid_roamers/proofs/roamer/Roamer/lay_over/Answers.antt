use Rattle.std.proofs.Common.{refl, sym, ap, subst}
use Rattle.std.proofs.lemmas.Result.{err_from_is_err_and}
use Rattle.fluid_roamers.specs.Taking.{IsSendable}
use Rattle.fluid_roamers.proofs.Roamed.{kept_laid, laid_err, laid_ok, numbered_by, pushed_by}
use Rattle.fluid_roamers.proofs.roamer.Roamer.lay_over.Goals as goal

pub returns-in_err-contents-clause-does : goal.returns-in_err-contents-clause-does
returns-in_err-contents-clause-does c = λ past stands.
    let e = err_from_is_err_and c.from_residual.result c.from_residual.ensures.1 in
    rw (e.1, e.2) (laid_err past c.args.self.now _ c.args.edit _ c.in_err-contents.ensures.answer (ap (λ app. record c.args.self.now { app = app }) c.in_err-contents.ensures.unchanged))

pub returns-in_err-number-clause-does : goal.returns-in_err-number-clause-does
returns-in_err-number-clause-does c = λ past stands.
    let e = err_from_is_err_and c.from_residual-in_err-number.result c.from_residual-in_err-number.ensures.1 in
    rw (e.1, e.2) tt

pub returns-clause-does : goal.returns-clause-does
returns-clause-does c = λ past stands.
    laid_ok past c.args.self.now c.args.edit c.edit.new.self c.push.new.self c.in_ok-contents.contents c.in_ok-number.number _ c.in_ok-contents.ensures.answer c.in_ok-contents.ensures.laid
    (numbered_by c.args.self.now.outbox past c.in_ok-number.number c.in_ok-number.ensures.number stands) refl
    (pushed_by c.args.self.now.outbox c.push.new.self c.in_ok-contents.contents past c.in_ok-number.ensures.stands stands)

pub returns-clause-kept : goal.returns-clause-kept
returns-clause-kept c =
    kept_laid c.args.self.now.outbox c.push.new.self c.args.self.now.app c.args.edit c.in_ok-contents.contents c.requires.kept c.requires.short c.in_ok-contents.ensures.answer c.in_ok-number.ensures.kept

pub returns-then-number-ge-LARGEST-clause-kept : goal.returns-then-number-ge-LARGEST-clause-kept
returns-then-number-ge-LARGEST-clause-kept c =
    kept_laid c.args.self.now.outbox c.push.new.self c.args.self.now.app c.args.edit c.in_ok-contents.contents c.requires.kept c.requires.short c.in_ok-contents.ensures.answer c.in_ok-number.ensures.kept

pub returns-in_err-number-clause-kept : goal.returns-in_err-number-clause-kept
returns-in_err-number-clause-kept c = subst IsSendable (sym c.in_err-number.ensures.unchanged) c.requires.kept
