use Rattle.std.proofs.Common.{sym, subst}
use Rattle.fluid_containers.specs.Saying.{SaysProposed}
use Rattle.fluid_containers.proofs.stepping.proposed.Goals as goal

pub returns-in-Err : goal.returns-in-Err
returns-in-Err c = subst (λ answer. SaysProposed c.args.name.now c.args.number answer c.unproposed.result) (sym c.in-Err.is) (c.unproposed.ensures c.args.number)
