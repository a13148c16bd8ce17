use Rattle.std.proofs.Common.{◌≡◌, ◌∙◌, Some, string_bytes, ap, sym, nat_cmp}
use Rattle.std.specs.Prelude.{is_some}
use Rattle.std.specs.BTreeSet.{contains}
use Rattle.fluid_tasks.specs.Kept.{at}
use Rattle.fluid_tasks.proofs.Names.{on_ok, on_err, grows, notes}
use Rattle.fluid_tasks.proofs.held.note_task_of.Goals as goal

pub returns-in-Some-clause-noted : goal.returns-in-Some-clause-noted
returns-in-Some-clause-noted c = λ some.
    let was : at c.args.clients.now c.args.client.now ≡ Some c.in-Some.holdings.now = sym c.in-Some.ensures.value in
    let held = c.get_mut.follows.holds c.note_task.new.self in
    on_ok c.note_task.result
    (λ is. notes c.args.client.now c.args.clients.now (c.get_mut.follows.lender c.note_task.new.self) c.in-Some.holdings.now c.note_task.new.self was (held.3 (ap is_some was)) (string_bytes c.args.task) (Some c.args.number)
    (λ x. ap (λ s. contains nat_cmp s x) c.note_task.ensures.items) is)
    c.note_task.ensures.noted

pub returns-in-Some-clause-unchanged : goal.returns-in-Some-clause-unchanged
returns-in-Some-clause-unchanged c =
    let was : at c.args.clients.now c.args.client.now ≡ Some c.in-Some.holdings.now = sym c.in-Some.ensures.value in
    let held = c.get_mut.follows.holds c.note_task.new.self in
    on_err c.note_task.result
    (λ is. grows c.args.client.now c.args.clients.now (c.get_mut.follows.lender c.note_task.new.self) c.in-Some.holdings.now c.note_task.new.self was (held.3 (ap is_some was))
    (λ x h. ap (λ s. contains nat_cmp s x) c.note_task.ensures.items ∙ h) is)
    c.note_task.ensures.unchanged
