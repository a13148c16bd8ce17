use Rattle.std.proofs.Common.{◌≡◌, Some, ap, sym}
use Rattle.std.specs.Prelude.{is_some}
use Rattle.fluid_tasks.specs.Kept.{at, IsGiven, IsSameQueue}
use Rattle.fluid_tasks.proofs.Names.{on_ok, on_err, changed}
use Rattle.fluid_tasks.proofs.queues.give.Goals as goal

pub returns-in-Some-clause-given : goal.returns-in-Some-clause-given
returns-in-Some-clause-given c =
    let was : at c.args.queues.now c.args.name.now ≡ Some c.in-Some.queue.now = sym c.in-Some.ensures.value in
    let held = c.get_mut.follows.holds c.give.new.self in
    on_ok c.give.result
    (λ is. changed (IsGiven c.args.item c.args.client) c.args.name.now c.args.queues.now (c.get_mut.follows.lender c.give.new.self) c.in-Some.queue.now c.give.new.self was (held.3 (ap is_some was)) is)
    c.give.ensures.given

pub returns-in-Some-clause-unchanged : goal.returns-in-Some-clause-unchanged
returns-in-Some-clause-unchanged c =
    let was : at c.args.queues.now c.args.name.now ≡ Some c.in-Some.queue.now = sym c.in-Some.ensures.value in
    let held = c.get_mut.follows.holds c.give.new.self in
    on_err c.give.result
    (λ is. changed IsSameQueue c.args.name.now c.args.queues.now (c.get_mut.follows.lender c.give.new.self) c.in-Some.queue.now c.give.new.self was (held.3 (ap is_some was)) is) c.give.ensures.unchanged
