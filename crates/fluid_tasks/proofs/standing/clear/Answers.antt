use Rattle.std.proofs.Common.{◌≡◌, ◌∙◌, Some, ap, sym, subst}
use Rattle.std.specs.Prelude.{is_some}
use Rattle.std.specs.Option.{option_copied_mut}
use Rattle.fluid_tasks.specs.Kept.{at, Changes, HasNoCandidates}
use Rattle.fluid_tasks.proofs.Names.{changed, unchanged}
use Rattle.fluid_tasks.proofs.standing.clear.Goals as goal

pub returns-in-Some : goal.returns-in-Some
returns-in-Some c =
    let was : at c.args.tasks.now c.args.name.now ≡ Some c.in-Some.candidates.now = sym c.in-Some.ensures.value in
    let held = c.get_mut.follows.holds c.clear.new.self in
    changed (HasNoCandidates) c.args.name.now c.args.tasks.now (c.get_mut.follows.lender c.clear.new.self) c.in-Some.candidates.now c.clear.new.self was (held.3 (ap is_some was)) c.clear.ensures.empty

pub returns-in_default : goal.returns-in_default
returns-in_default c =
    subst (Changes (HasNoCandidates) c.args.name.now c.args.tasks.now) (sym c.get_mut.follows.holds-at-none)
    (unchanged (HasNoCandidates) c.args.name.now c.args.tasks.now (sym c.get_mut.ensures.value ∙ ap option_copied_mut c.in_default.is))
