use Rattle.fluid_load.proofs.Moved.{step_works}
use Rattle.fluid_load.proofs.Parts.{can_pass}
use Rattle.fluid_load.proofs.working.Working.step.Goals as goal

pub pass-requires-clause-can : goal.pass-requires-clause-can
pass-requires-clause-can g c = can_pass c.args.self.now c.requires.can

pub returns : goal.returns
returns g c = step_works c.args.step c.args.self.now c.pass.new.self c.pass.result c.requires.quiet c.requires.own c.pass.ensures.on c.pass.ensures.does
