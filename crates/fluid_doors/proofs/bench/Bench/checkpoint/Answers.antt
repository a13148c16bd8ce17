use Rattle.fluid_doors.proofs.Passes.{continues}
use Rattle.fluid_doors.proofs.Answering.{checkpoints}
use Rattle.fluid_doors.proofs.bench.Bench.checkpoint.Goals as goal

pub returns-clause-goes : goal.returns-clause-goes
returns-clause-goes g c = continues _ _ _ c.checkpoint.ensures.goes

pub returns-clause-says : goal.returns-clause-says
returns-clause-says g c = λ l stands. checkpoints _ _ _ l c.lanes_say_their_ledgers.ensures.says c.checkpoint.ensures.gate c.checkpoint.ensures.stores stands
