use Rattle.std.proofs.Common.{◌≡◌, ◌∙◌, Some, ap, sym, subst}
use Rattle.std.specs.Prelude.{is_some}
use Rattle.std.specs.Option.{option_copied_mut}
use Rattle.fluid_tasks.specs.Kept.{at, Changes, IsFinished}
use Rattle.fluid_tasks.proofs.Names.{changed, unchanged}
use Rattle.fluid_tasks.proofs.queues.finish.Goals as goal

pub returns-in-Some : goal.returns-in-Some
returns-in-Some c =
    let was : at c.args.queues.now c.args.name.now ≡ Some c.in-Some.queue.now = sym c.in-Some.ensures.value in
    let held = c.get_mut.follows.holds c.finish.new.self in
    changed (IsFinished c.args.item) c.args.name.now c.args.queues.now (c.get_mut.follows.lender c.finish.new.self) c.in-Some.queue.now c.finish.new.self was (held.3 (ap is_some was)) c.finish.ensures

pub returns-in_default : goal.returns-in_default
returns-in_default c =
    subst (Changes (IsFinished c.args.item) c.args.name.now c.args.queues.now) (sym c.get_mut.follows.holds-at-none)
    (unchanged (IsFinished c.args.item) c.args.name.now c.args.queues.now (sym c.get_mut.ensures.value ∙ ap option_copied_mut c.in_default.is))
