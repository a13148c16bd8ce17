use Rattle.std.proofs.Common.{None, refl, arith}
use Rattle.fluid_doors.specs.Collecting.{gathered}
use Rattle.fluid_doors.proofs.Reading.{collects_none, range_end}
use Rattle.fluid_doors.proofs.Tails.{apart_tail, collects_numbers}
use Rattle.fluid_doors.proofs.bench.Bench.collect.Goals as goal

pub returns-then-range-clause-says : goal.returns-then-range-clause-says
returns-then-range-clause-says g c = λ l stands.
    collects_none gathered _ l _ _ None c.lanes_say_their_ledgers.ensures.says stands.lane refl
    (range_end _ _ _ _ _ _ c.seq.ensures.is c.batch-range.ensures.start c.batch-range.ensures.end c.if-range.true)

pub returns-then-range-from-clause-says : goal.returns-then-range-from-clause-says
returns-then-range-from-clause-says g c = λ l stands.
    let some = c.if-range.false in
    collects_numbers c.args.self.now.lane l _ _ _ _ _ _ c.seq.ensures.is c.batch-range.ensures.start c.batch-range.ensures.end
    (c.gather.ensures.says l stands.lane
    (apart_tail c.args.self.now.lane l _ _ _ _ _ _ c.lanes_say_their_ledgers.ensures.says stands.lane c.seq.ensures.bound c.requires.first c.seq.ensures.is c.batch-range.ensures.start c.batch-range.ensures.end (omega (arith, some)) c.new-apart.ensures))

pub returns-clause-says : goal.returns-clause-says
returns-clause-says g c = λ l stands.
    collects_numbers c.args.self.now.lane l _ _ _ _ _ _ c.seq.ensures.is c.batch-range.ensures.start c.batch-range.ensures.end (c.gather-2.ensures.says l stands.lane stands.tail)
