use Rattle.fluid_doors.proofs.Passes.{continues}
use Rattle.fluid_doors.proofs.Answering.{reports}
use Rattle.fluid_doors.proofs.bench.Bench.conclude.Goals as goal

pub returns-clause-goes : goal.returns-clause-goes
returns-clause-goes g c = continues _ _ _ c.conclude.ensures.goes

pub returns-clause-says : goal.returns-clause-says
returns-clause-says g c = λ l stands. reports _ _ _ _ l c.lanes_say_their_ledgers.ensures.says c.conclude.ensures.gate c.conclude.ensures.enters.cause c.conclude.ensures.said stands
