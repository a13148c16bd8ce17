use Rattle.fluid_doors.proofs.Passes.{continues}
use Rattle.fluid_doors.proofs.Answering.{submits}
use Rattle.fluid_doors.proofs.Tails.{kept_up_by, kept_short_by}
use Rattle.fluid_doors.proofs.bench.Bench.submit.Goals as goal

pub returns-clause-goes : goal.returns-clause-goes
returns-clause-goes g c = continues _ _ _ c.submit-answer.ensures.goes

pub returns-clause-tail : goal.returns-clause-tail
returns-clause-tail g c = λ l stands.
    let s = c.seq-last.ensures in
    kept_up_by c.args.self.now.lane _ _ _ _ c.args.raw.now _ l c.lanes_say_their_ledgers.ensures.says (continues _ _ _ c.submit-answer.ensures.goes) s.is s.bound c.keep_up.ensures stands

pub returns-clause-short : goal.returns-clause-short
returns-clause-short g c = kept_short_by _ _ _ _ c.keep_up.ensures

pub returns-clause-says : goal.returns-clause-says
returns-clause-says g c = λ l stands. submits _ _ _ _ l c.lanes_say_their_ledgers.ensures.says c.submit-answer.ensures.gate c.submit-answer.ensures.enters.cause c.submit-answer.ensures.said stands
