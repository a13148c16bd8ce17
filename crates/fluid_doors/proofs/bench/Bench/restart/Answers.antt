use Rattle.fluid_doors.proofs.Passes.{continues}
use Rattle.fluid_doors.proofs.Answering.{restarts_say}
use Rattle.fluid_doors.proofs.bench.Bench.restart.Goals as goal

pub returns-clause-goes : goal.returns-clause-goes
returns-clause-goes g c = continues _ _ _ c.restart.ensures.goes

pub returns-clause-says : goal.returns-clause-says
returns-clause-says g c = λ l stands. restarts_say _ _ _ _ l c.lanes_say_their_ledgers.ensures.says c.restart.ensures.gate c.restart.ensures.restarts.cause (c.restart.ensures.never l stands) stands
