use Rattle.std.proofs.Common.{◌≡◌, Some, ap, sym}
use Rattle.std.specs.Prelude.{is_some}
use Rattle.fluid_tasks.specs.Kept.{at, WithCandidate, IsSameTask}
use Rattle.fluid_tasks.proofs.Names.{on_ok, on_err, changed}
use Rattle.fluid_tasks.proofs.standing.stand.Goals as goal

pub returns-in-Some-clause-stands : goal.returns-in-Some-clause-stands
returns-in-Some-clause-stands c =
    let was : at c.args.tasks.now c.args.name.now ≡ Some c.in-Some.candidates.now = sym c.in-Some.ensures.value in
    let held = c.get_mut.follows.holds c.insert.new.candidates in
    on_ok c.insert.result
    (λ is. changed (WithCandidate c.args.number c.args.client) c.args.name.now c.args.tasks.now (c.get_mut.follows.lender c.insert.new.candidates) c.in-Some.candidates.now c.insert.new.candidates was (held.3 (ap is_some was)) is)
    c.insert.ensures.stands

pub returns-in-Some-clause-unchanged : goal.returns-in-Some-clause-unchanged
returns-in-Some-clause-unchanged c =
    let was : at c.args.tasks.now c.args.name.now ≡ Some c.in-Some.candidates.now = sym c.in-Some.ensures.value in
    let held = c.get_mut.follows.holds c.insert.new.candidates in
    on_err c.insert.result
    (λ is. changed IsSameTask c.args.name.now c.args.tasks.now (c.get_mut.follows.lender c.insert.new.candidates) c.in-Some.candidates.now c.insert.new.candidates was (held.3 (ap is_some was)) is) c.insert.ensures.unchanged
