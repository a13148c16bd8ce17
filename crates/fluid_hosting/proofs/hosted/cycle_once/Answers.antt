use Rattle.fluid_connection.specs.Talked.{talking}
use Rattle.fluid_hosting.proofs.hosted.cycle_once.Goals as goal

pub returns-in-Ok-clause-hears : goal.returns-in-Ok-clause-hears
returns-in-Ok-clause-hears g c = λ on. (c.in-Ok.ensures.unused, c.in-Ok.ensures.does.runs.by.1.1.0)

pub returns-in-Err-clause-service : goal.returns-in-Err-clause-service
returns-in-Err-clause-service g c = c.conclude.ensures.service _ c.in-Err.ensures.service

pub returns-in-Err-clause-does : goal.returns-in-Err-clause-does
returns-in-Err-clause-does g c = record {
  last = talking c.cycle.new.talk;
  end = c.in-Err.end;
  cycles = c.in-Err.ensures.does;
  concludes = c.conclude.ensures.does;
}
