use Rattle.fluid_desk.proofs.Steps.{counts, told_ends}
use Rattle.std.proofs.Common.{arith}
use Rattle.fluid_desk.proofs.on_lane.count.Goals as goal

pub returns-clause-does : goal.returns-clause-does
returns-clause-does g c = λ limits w d of.
    counts limits _ w d c.args.name.now _ of (c.line_or_stop.ensures _ (c.count_line.ensures _ (c.numbers_of.ensures limits d of)))

pub returns-clause-runs : goal.returns-clause-runs
returns-clause-runs g c = record { later = omega arith; sides = omega arith; ends = told_ends c.args.lane.now c.args.lane.now _ _ (c.line_or_stop.ensures) }
