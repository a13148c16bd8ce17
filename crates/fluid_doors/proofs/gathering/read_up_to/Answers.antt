use Rattle.std.proofs.Common.{◌≡◌, ◌≤◌, subst, arith}
use Rattle.std.specs.Prelude.{IfErr}
use Rattle.std.proofs.lemmas.Result.{err_from_is_err_and}
use Rattle.fluid_types.specs.Forms.{largest}
use Rattle.fluid_deltas.specs.Pushed.{slice}
use Rattle.fluid_deltas.specs.Ranges.{AreNumbersOf}
use Rattle.fluid_types.specs.Ledger.{order}
use Rattle.fluid_lane.specs.Steps.{ledger}
use Rattle.fluid_doors.specs.Collecting.{IsReadCause}
use Rattle.fluid_doors.proofs.Tails.{begun, begun_high, extended, collects_fault, read_caused, range_numbers, range_slice, reaches_to}
use Rattle.fluid_doors.proofs.gathering.read_up_to.Goals as goal

pub returns-in_err-messages-clause-cause : goal.returns-in_err-messages-clause-cause
returns-in_err-messages-clause-cause g c =
    let e = err_from_is_err_and c.from_residual.result c.from_residual.ensures.1 in
    rw (e.1, e.2) (subst (λ r. IfErr r (IsReadCause c.args.lane.now.keeping.faults c.range.new.self.keeping.faults)) c.in_err-messages.was (read_caused (λ v. v.items) c.args.lane.now c.range.new.self _ _ _ c.range.ensures.worn c.range.ensures.ranges))

pub returns-in_err-messages-clause-reads : goal.returns-in_err-messages-clause-reads
returns-in_err-messages-clause-reads g c = λ l lane was.
    let e = err_from_is_err_and c.from_residual.result c.from_residual.ensures.1 in
    let some = c.requires.some in let last = c.requires.last in let low = c.requires.first in let first = was.first in
    let bound = subst (λ n. n ≤ largest) c.seq-last.ensures.is c.seq-last.ensures.bound in
    let high = begun_high _ _ _ c.begin.ensures in let end = c.end-end.ensures.is in
    rw (e.1, e.2) (record {
      tail = begun c.args.lane.now c.args.tail.now c.begin.new.tail c.args.from l c.lanes_say_their_ledgers.ensures.says lane bound (omega (arith, low, first)) (omega (arith, some, last)) c.begin.ensures was;
      fails = λ atmost far.
          collects_fault (λ v. v.items) c.args.lane.now _ l c.args.from atmost c.end-end.result c.args.to _ _ c.in_err-messages.was c.lanes_say_their_ledgers.ensures.says lane (omega (arith, end, high)) far
          c.range.ensures.worn c.range.ensures.ranges c.range.ensures.slice;
    })

pub returns-in-Ok-clause-reads : goal.returns-in-Ok-clause-reads
returns-in-Ok-clause-reads g c = λ l lane was.
    let some = c.requires.some in let last = c.requires.last in let low = c.requires.first in let first = was.first in
    let bound = subst (λ n. n ≤ largest) c.seq-last.ensures.is c.seq-last.ensures.bound in
    let items = c.in_ok-messages.messages.items in
    let end = c.end-end.ensures.is in
    record {
      tail = extended _ c.begin.new.tail _ c.args.to items l (rw c.as_slice.ensures.value at c.in-Ok.ensures.put) (omega (arith, last, bound))
          (subst (λ n. AreNumbersOf n c.args.to items) end (range_numbers (λ v. v.items) c.args.lane.now _ _ _ _ _ c.in_ok-messages.was c.range.ensures.worn c.range.ensures.ranges))
          (λ told. (
            subst (λ n. items ≡ slice (order (ledger l)) n c.args.to) end (range_slice (λ v. v.items) c.args.lane.now c.range.new.self c.end-end.result c.args.to l _ _ c.in_ok-messages.was lane c.range.ensures.worn c.range.ensures.slice told),
            reaches_to c.args.lane.now l c.args.to c.lanes_say_their_ledgers.ensures.says lane last told,
          ))
          (begun c.args.lane.now c.args.tail.now c.begin.new.tail c.args.from l c.lanes_say_their_ledgers.ensures.says lane bound (omega (arith, low, first)) (omega (arith, some, last)) c.begin.ensures was);
      fails = tt;
    }
