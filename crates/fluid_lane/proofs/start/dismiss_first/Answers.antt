use Rattle.std.proofs.Common.{arith}
use Rattle.std.proofs.lemmas.Result.{err_from_is_err_and}
use Rattle.fluid_readback.proofs.Fitting.{leaves_fit}
use Rattle.fluid_lane.proofs.Caused.{caused_entering}
use Rattle.fluid_lane.proofs.Leaving.{leaves_first, leave_fails}
use Rattle.fluid_lane.proofs.start.dismiss_first.Goals as goal

pub take_in-requires-clause-fits : goal.take_in-requires-clause-fits
take_in-requires-clause-fits g c = leaves_fit c.in_ok-id.id c.args.moment c.in_ok-id.ensures.name c.requires.moment

pub returns-clause-does : goal.returns-clause-does
returns-clause-does g c =
    leaves_first c.args.moment _ _ c.args.document.now _ c.in_ok-id.id _ c.in_ok-id.ensures.name c.requires.moment c.in_ok-id.ensures.there (omega (arith, c.entered.ensures.is, c.if-entered-ge-LARGEST.false)) c.in_ok-take_in.ensures

pub returns-in_err-take_in-clause-does : goal.returns-in_err-take_in-clause-does
returns-in_err-take_in-clause-does g c =
    let first = leaves_first c.args.moment _ _ c.args.document.now _ c.in_ok-id.id _ c.in_ok-id.ensures.name c.requires.moment c.in_ok-id.ensures.there (omega (arith, c.entered.ensures.is, c.if-entered-ge-LARGEST.false)) c.in_err-take_in.ensures in
    let e = err_from_is_err_and c.from_residual-in_err-take_in.result c.from_residual-in_err-take_in.ensures.1 in
    rw (e.1, e.2) (leave_fails c.args.moment _ _ c.args.document.now _ c.in_err-take_in.field-0.0 c.entered.ensures.levelled first)

pub returns-in_err-take_in-clause-cause : goal.returns-in_err-take_in-clause-cause
returns-in_err-take_in-clause-cause g c =
    let e = err_from_is_err_and c.from_residual-in_err-take_in.result c.from_residual-in_err-take_in.ensures.1 in rw (e.1, e.2) (caused_entering _ _ c.in_err-take_in.field-0.0 c.in_err-take_in.ensures.cause)
