use Rattle.std.proofs.Common.{◌≡◌, Some, ap, sym}
use Rattle.std.specs.Prelude.{is_some}
use Rattle.fluid_tasks.specs.Kept.{at, IsAdded}
use Rattle.fluid_tasks.proofs.Names.{on_ok, on_err, changed, same_names}
use Rattle.fluid_tasks.proofs.queues.add_to.Goals as goal

pub returns-in-Some-clause-added : goal.returns-in-Some-clause-added
returns-in-Some-clause-added c =
    let was : at c.args.queues.now c.args.name.now ≡ Some c.in-Some.queue.now = sym c.in-Some.ensures.value in
    let held = c.get_mut.follows.holds c.add.new.self in
    on_ok c.add.result
    (λ is. changed (IsAdded c.args.item) c.args.name.now c.args.queues.now (c.get_mut.follows.lender c.add.new.self) c.in-Some.queue.now c.add.new.self was (held.3 (ap is_some was)) is)
    c.add.ensures.added

pub returns-in-Some-clause-unchanged : goal.returns-in-Some-clause-unchanged
returns-in-Some-clause-unchanged c =
    let was : at c.args.queues.now c.args.name.now ≡ Some c.in-Some.queue.now = sym c.in-Some.ensures.value in
    let held = c.get_mut.follows.holds c.add.new.self in
    on_err c.add.result
    (λ is. same_names c.args.name.now c.args.queues.now (c.get_mut.follows.lender c.add.new.self) c.in-Some.queue.now c.add.new.self was (held.3 (ap is_some was)) is) c.add.ensures.unchanged
