use Rattle.std.proofs.Common.{refl, arith}
use Rattle.fluid_session.proofs.Onward.{runs_then, runs_still}
use Rattle.fluid_session.proofs.running.run.Goals as goal

pub cycles-init : goal.cycles-init
cycles-init g c = (tt, tt, c.requires.unused, c.requires.service, c.requires.few, runs_still _ _ _ _ c.requires.few refl refl (omega arith) (omega arith))

pub cycles-preserved : goal.cycles-preserved
cycles-preserved g c = (tt, tt, c.in-Ok.ensures.unused, c.in-Ok.ensures.service, c.in-Ok.ensures.does.runs.by.1.1.0, runs_then _ _ _ _ _ _ _ _ _ _ c.cycles.invariant.5 c.in-Ok.ensures.does.runs)

pub returns-in-Err : goal.returns-in-Err
returns-in-Err g c = record { service = c.in-Err.ensures.service; does = runs_then _ _ _ _ _ _ _ _ _ _ c.cycles.invariant.5 c.in-Err.ensures.does.runs }
