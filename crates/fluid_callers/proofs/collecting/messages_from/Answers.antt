use Rattle.std.proofs.Common.{arith, subst, sym}
use Rattle.fluid_types.specs.Order.{AreNumberedFrom}
use Rattle.fluid_callers.proofs.Collected.{fetched_none, range_reads, range_honest, range_fetched, range_numbered}
use Rattle.fluid_callers.proofs.Ends.{delta_aside}
use Rattle.fluid_callers.proofs.collecting.messages_from.Goals as goal

pub returns-then-behind-from-clause-does : goal.returns-then-behind-from-clause-does
returns-then-behind-from-clause-does g c = λ limits d of. fetched_none limits c.args.lane.now d c.args.from c.args.behind _ of c.requires.last (omega (arith, c.if-behind-from.true)) c.new.ensures.items

pub returns-in-Ok-clause-does : goal.returns-in-Ok-clause-does
returns-in-Ok-clause-does g c = λ limits d of.
    let e = c.in-Ok.ensures in
    range_fetched (λ v. v.items) c.args.from c.args.behind c.args.lane.now c.range.new.self limits d of c.in-Ok.messages e.goes e.worn e.ranges e.slice c.requires.last c.requires.first

pub returns-in-Err-clause-does : goal.returns-in-Err-clause-does
returns-in-Err-clause-does g c = λ limits d of.
    let e = c.in-Err.ensures in
    rw c.delta_stop.ensures (range_honest (λ v. v.items) c.args.from c.args.behind c.args.lane.now c.range.new.self limits d of c.in-Err.fault e.worn e.ranges e.slice)

pub returns-in-Err-clause-runs : goal.returns-in-Err-clause-runs
returns-in-Err-clause-runs g c =
    let e = c.in-Err.ensures in
    record {
      later = e.goes.later;
      sides = delta_aside _ _ c.in-Err.fault e.goes.sides;
      ends = rw c.delta_stop.ensures (range_reads (λ v. v.items) c.args.from c.args.behind c.args.lane.now c.range.new.self c.in-Err.fault e.goes e.worn e.ranges e.slice);
    }

pub returns-in-Ok-clause-runs : goal.returns-in-Ok-clause-runs
returns-in-Ok-clause-runs g c = record { later = c.in-Ok.ensures.goes.later; sides = omega (arith, c.in-Ok.ensures.goes.sides); ends = tt }

pub returns-then-behind-from-clause-runs : goal.returns-then-behind-from-clause-runs
returns-then-behind-from-clause-runs g c = record { later = omega arith; sides = omega arith; ends = tt }

pub returns-in-Ok-clause-numbered : goal.returns-in-Ok-clause-numbered
returns-in-Ok-clause-numbered g c =
    let e = c.in-Ok.ensures in range_numbered (λ v. v.items) c.args.from c.args.behind c.args.lane.now c.range.new.self c.in-Ok.messages e.worn e.ranges

pub returns-then-behind-from-clause-numbered : goal.returns-then-behind-from-clause-numbered
returns-then-behind-from-clause-numbered g c = subst (AreNumberedFrom c.args.from) (sym c.new.ensures.items) tt
