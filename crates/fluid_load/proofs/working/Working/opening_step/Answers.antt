use Rattle.std.proofs.Common.{sym, subst}
use Rattle.fluid_world.specs.Naming.{IsShortStep}
use Rattle.fluid_load.proofs.Moved.{opening_opens}
use Rattle.fluid_load.proofs.Parts.{can_pass_first}
use Rattle.fluid_load.proofs.working.Working.opening_step.Goals as goal

pub pass-requires-clause-can : goal.pass-requires-clause-can
pass-requires-clause-can g c = can_pass_first c.args.self.now c.requires.can

pub pass-requires-clause-short : goal.pass-requires-clause-short
pass-requires-clause-short g c = subst IsShortStep (sym c.requires.load) tt

pub returns : goal.returns
returns g c = opening_opens c.args.step c.args.self.now c.pass.new.self c.pass.result c.requires.load c.pass.ensures.on c.pass.ensures.does
