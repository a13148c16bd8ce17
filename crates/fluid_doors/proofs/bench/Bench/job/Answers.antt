use Rattle.fluid_doors.proofs.Answering.{if_ok, job_is}
use Rattle.fluid_doors.proofs.bench.Bench.job.Goals as goal

pub returns-clause-says : goal.returns-clause-says
returns-clause-says g c = λ l stands. if_ok _ _ _ (λ given is. job_is _ given l c.lanes_say_their_ledgers.ensures.says is stands) c.job.ensures.job
