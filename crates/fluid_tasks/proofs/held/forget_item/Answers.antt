use Rattle.std.proofs.Common.{◌≡◌, Some, ap, sym, subst}
use Rattle.std.specs.Prelude.{is_some}
use Rattle.std.specs.BTreeMap.{get_by_text}
use Rattle.fluid_tasks.specs.Kept.{at, KeepsItems}
use Rattle.fluid_tasks.proofs.Names.{loses, loses_nothing}
use Rattle.fluid_tasks.proofs.held.forget_item.Goals as goal

pub returns-in-Some : goal.returns-in-Some
returns-in-Some c =
    let was : at c.args.clients.now c.args.client.now ≡ Some c.in-Some.holdings.now = sym c.in-Some.ensures.value in
    let held = c.get_mut.follows.holds c.forget_item.new.self in
    loses c.args.client.now c.args.clients.now (c.get_mut.follows.lender c.forget_item.new.self) c.in-Some.holdings.now c.forget_item.new.self was (held.3 (ap is_some was)) c.args.item c.forget_item.ensures.items
    (λ u. ap (λ t. get_by_text t u) c.forget_item.ensures.tasks)

pub returns-in_default : goal.returns-in_default
returns-in_default c = subst (KeepsItems c.args.client.now c.args.item c.args.clients.now) (sym c.get_mut.follows.holds-at-none) (loses_nothing c.args.client.now c.args.item c.args.clients.now)
