use Rattle.std.proofs.Common.{Some, arith, ap}
use Rattle.fluid_types.specs.declared.entries.Raw.TheVariants.{Submit}
use Rattle.fluid_roamers.proofs.Fitted.{short_fits}
use Rattle.fluid_roamers.proofs.roamer.entry_of.Goals as goal

pub returns-clause-is : goal.returns-clause-is
returns-clause-is c = ap (λ id. Some (Submit id c.args.submission c.args.moment)) c.in_ok-id.ensures

pub returns-clause-fits : goal.returns-clause-fits
returns-clause-fits c = (tt, rw c.in_ok-id.ensures (short_fits c.args.client.now c.args.submission c.args.moment c.as_str-name.ensures.name c.requires.moment (omega (arith, c.if-submission-gt-LARGEST.false)) c.requires.short))
