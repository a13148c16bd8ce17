use Rattle.std.proofs.Common.{arith}
use Rattle.fluid_turns.proofs.Fitted.{delete_short_as}
use Rattle.fluid_turns.proofs.texts.delete.Goals as goal

pub returns-clause-short : goal.returns-clause-short
returns-clause-short c = delete_short_as c.args.key c.in_ok-map.map c.in_ok-key.key (omega (arith, c.ranges.key.fits)) c.in_ok-map.ensures c.in_ok-key.ensures
