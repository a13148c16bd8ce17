use Rattle.fluid_doors.proofs.Passes.{continues}
use Rattle.fluid_doors.proofs.Answering.{sweeps, is_leave}
use Rattle.fluid_doors.proofs.bench.Bench.sweep.Goals as goal

pub returns-clause-goes : goal.returns-clause-goes
returns-clause-goes g c = continues _ _ _ c.sweep.ensures.goes

pub returns-clause-raw : goal.returns-clause-raw
returns-clause-raw g c = is_leave _ _ _ _ _ c.sweep.ensures.sweeps

pub returns-clause-says : goal.returns-clause-says
returns-clause-says g c = λ l stands. sweeps _ _ _ _ _ l c.lanes_say_their_ledgers.ensures.says c.sweep.ensures.sweeps stands
