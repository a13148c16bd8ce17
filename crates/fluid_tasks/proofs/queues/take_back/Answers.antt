use Rattle.std.proofs.Common.{◌≡◌, ◌∙◌, Some, ap, sym, subst}
use Rattle.std.specs.Prelude.{is_some}
use Rattle.std.specs.Option.{option_copied_mut}
use Rattle.fluid_tasks.specs.Kept.{at, Changes, IsTakenBack}
use Rattle.fluid_tasks.proofs.Names.{changed, unchanged}
use Rattle.fluid_tasks.proofs.queues.take_back.Goals as goal

pub returns-in-Some : goal.returns-in-Some
returns-in-Some c =
    let was : at c.args.queues.now c.args.name.now ≡ Some c.in-Some.queue.now = sym c.in-Some.ensures.value in
    let held = c.get_mut.follows.holds c.take_back.new.self in
    changed (IsTakenBack c.args.item) c.args.name.now c.args.queues.now (c.get_mut.follows.lender c.take_back.new.self) c.in-Some.queue.now c.take_back.new.self was (held.3 (ap is_some was)) c.take_back.ensures

pub returns-in_default : goal.returns-in_default
returns-in_default c =
    subst (Changes (IsTakenBack c.args.item) c.args.name.now c.args.queues.now) (sym c.get_mut.follows.holds-at-none)
    (unchanged (IsTakenBack c.args.item) c.args.name.now c.args.queues.now (sym c.get_mut.ensures.value ∙ ap option_copied_mut c.in_default.is))
