use Rattle.fluid_doors.proofs.Passes.{continues}
use Rattle.fluid_doors.proofs.Answering.{joins, is_join}
use Rattle.fluid_doors.proofs.bench.Bench.join.Goals as goal

pub returns-clause-goes : goal.returns-clause-goes
returns-clause-goes g c = continues _ _ _ c.join.ensures.goes

pub returns-clause-raw : goal.returns-clause-raw
returns-clause-raw g c = is_join _ _ _ _ _ c.join.ensures.raw

pub returns-clause-says : goal.returns-clause-says
returns-clause-says g c = λ l stands. joins _ _ _ _ _ _ l c.lanes_say_their_ledgers.ensures.says c.join.ensures.gate c.join.ensures.enters.cause c.join.ensures.raw c.join.ensures.said (rw c.seq-last.ensures.is at c.seq-last.ensures.few) (λ says. says.too_many c.entered-number.ensures.named c.args.scopes c.args.detail c.args.moment) stands
