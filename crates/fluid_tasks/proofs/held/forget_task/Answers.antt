use Rattle.std.proofs.Common.{◌≡◌, ◌∙◌, None, Some, ap, sym, subst, nat_cmp}
use Rattle.std.specs.Prelude.{is_some}
use Rattle.std.specs.Option.{option_copied_mut}
use Rattle.std.specs.BTreeSet.{contains}
use Rattle.fluid_tasks.specs.Kept.{at, NotesTask}
use Rattle.fluid_tasks.proofs.Names.{notes, notes_nothing}
use Rattle.fluid_tasks.proofs.held.forget_task.Goals as goal

pub returns-in-Some : goal.returns-in-Some
returns-in-Some c =
    let was : at c.args.clients.now c.args.client.now ≡ Some c.in-Some.holdings.now = sym c.in-Some.ensures.value in
    let held = c.get_mut.follows.holds c.forget_task.new.self in
    notes c.args.client.now c.args.clients.now (c.get_mut.follows.lender c.forget_task.new.self) c.in-Some.holdings.now c.forget_task.new.self was (held.3 (ap is_some was)) c.args.task.now None
    (λ x. ap (λ s. contains nat_cmp s x) c.forget_task.ensures.items) c.forget_task.ensures.forgotten

pub returns-in_default : goal.returns-in_default
returns-in_default c =
    subst (NotesTask c.args.client.now c.args.task.now None c.args.clients.now) (sym c.get_mut.follows.holds-at-none)
    (notes_nothing c.args.client.now c.args.task.now c.args.clients.now (sym c.get_mut.ensures.value ∙ ap option_copied_mut c.in_default.is))
