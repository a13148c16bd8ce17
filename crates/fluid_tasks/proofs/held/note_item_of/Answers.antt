use Rattle.std.proofs.Common.{◌≡◌, Some, ap, sym}
use Rattle.std.specs.Prelude.{is_some}
use Rattle.std.specs.BTreeMap.{get_by_text}
use Rattle.fluid_tasks.specs.Kept.{at}
use Rattle.fluid_tasks.proofs.Names.{on_ok, grows, has_noted}
use Rattle.fluid_tasks.proofs.held.note_item_of.Goals as goal

pub returns-in-Some-clause-kept : goal.returns-in-Some-clause-kept
returns-in-Some-clause-kept c =
    let was : at c.args.clients.now c.args.client.now ≡ Some c.in-Some.holdings.now = sym c.in-Some.ensures.value in
    let held = c.get_mut.follows.holds c.note_item.new.self in
    grows c.args.client.now c.args.clients.now (c.get_mut.follows.lender c.note_item.new.self) c.in-Some.holdings.now c.note_item.new.self was (held.3 (ap is_some was)) c.note_item.ensures.kept
    (λ u. ap (λ t. get_by_text t u) c.note_item.ensures.tasks)

pub returns-in-Some-clause-noted : goal.returns-in-Some-clause-noted
returns-in-Some-clause-noted c = λ some.
    let was : at c.args.clients.now c.args.client.now ≡ Some c.in-Some.holdings.now = sym c.in-Some.ensures.value in
    let held = c.get_mut.follows.holds c.note_item.new.self in
    on_ok c.note_item.result
    (λ is. has_noted c.args.client.now c.args.clients.now (c.get_mut.follows.lender c.note_item.new.self) c.in-Some.holdings.now c.note_item.new.self was (held.3 (ap is_some was)) c.args.item is)
    c.note_item.ensures.noted
