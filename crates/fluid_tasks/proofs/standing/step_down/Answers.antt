use Rattle.std.proofs.Common.{◌≡◌, ◌∙◌, Some, ap, sym, subst}
use Rattle.std.specs.Prelude.{is_some}
use Rattle.std.specs.Option.{option_copied_mut}
use Rattle.fluid_tasks.specs.Kept.{at, Changes, IsWithout}
use Rattle.fluid_tasks.proofs.Names.{changed, unchanged}
use Rattle.fluid_tasks.proofs.standing.step_down.Goals as goal

pub returns-in-Some : goal.returns-in-Some
returns-in-Some c =
    let was : at c.args.tasks.now c.args.name.now ≡ Some c.in-Some.candidates.now = sym c.in-Some.ensures.value in
    let held = c.get_mut.follows.holds c.remove.new.self in
    changed (IsWithout c.args.number) c.args.name.now c.args.tasks.now (c.get_mut.follows.lender c.remove.new.self) c.in-Some.candidates.now c.remove.new.self was (held.3 (ap is_some was)) c.remove.ensures.entries

pub returns-in_default : goal.returns-in_default
returns-in_default c =
    subst (Changes (IsWithout c.args.number) c.args.name.now c.args.tasks.now) (sym c.get_mut.follows.holds-at-none)
    (unchanged (IsWithout c.args.number) c.args.name.now c.args.tasks.now (sym c.get_mut.ensures.value ∙ ap option_copied_mut c.in_default.is))
