use Rattle.std.proofs.Common.{◌+◌, ◌-◌, ◌≤◌, subst, arith}
use Rattle.std.proofs.Math.Nat.{min-le_left}
use Rattle.std.proofs.lemmas.Result.{err_from_is_err_and}
use Rattle.fluid_types.specs.Forms.{largest}
use Rattle.fluid_feed.proofs.Stretches.{stretch-length}
use Rattle.fluid_doors.proofs.Tails.{trimmed, collects_event}
use Rattle.fluid_doors.proofs.gathering.gather.Goals as goal

pub returns-in_err-read_up_to-clause-cause : goal.returns-in_err-read_up_to-clause-cause
returns-in_err-read_up_to-clause-cause g c =
    let e = err_from_is_err_and c.from_residual.result c.from_residual.ensures.1 in
    rw (e.1, e.2) c.in_err-read_up_to.ensures.cause

pub returns-in_err-read_up_to-clause-says : goal.returns-in_err-read_up_to-clause-says
returns-in_err-read_up_to-clause-says g c = λ l lane was atmost is.
    let e = err_from_is_err_and c.from_residual.result c.from_residual.ensures.1 in
    let low = min-le_left atmost (c.args.lane.now.entries.state.sequencer.sequence + 1 - c.args.from) in
    rw (e.1, e.2) ((c.in_err-read_up_to.ensures.reads l lane was).fails atmost (omega (arith, is, low)))

pub returns-in-Ok-clause-tail : goal.returns-in-Ok-clause-tail
returns-in-Ok-clause-tail g c = λ l lane was. trimmed _ _ _ l c.trim.ensures (c.in_ok-read_up_to.ensures.reads l lane was).tail

pub returns-in-Ok-clause-says : goal.returns-in-Ok-clause-says
returns-in-Ok-clause-says g c = λ l lane was atmost is.
    let r = c.in_ok-read_up_to.ensures in
    let some = c.requires.some in
    collects_event c.args.lane.now _ c.args.name.now _ l c.args.from c.args.to atmost c.lanes_say_their_ledgers.ensures.says lane (r.reads l lane was).tail (subst (λ n. n ≤ largest) c.seq-last.ensures.is c.seq-last.ensures.bound)
    r.reached.low (omega (arith, some)) r.reached.high is (stretch-length _ c.args.from c.args.to r.reached.low (omega (arith, some)) r.reached.high) c.in-Ok.ensures

pub returns-in-Err-clause-tail : goal.returns-in-Err-clause-tail
returns-in-Err-clause-tail g c = λ l lane was. trimmed _ _ _ l c.trim.ensures (c.in_ok-read_up_to.ensures.reads l lane was).tail
