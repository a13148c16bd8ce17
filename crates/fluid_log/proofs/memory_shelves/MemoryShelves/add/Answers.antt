use Rattle.std.proofs.Common.{◌≡◌, ◌≤◌, rules, ap, ◌∙◌, refl}
use Rattle.std.specs.FinMap.{remove, empty}
use Rattle.fluid_log.specs.declared.place.Place.TheVariants.{In}
use Rattle.fluid_log.specs.Places.{given_with, values_where}
use Rattle.fluid_log.proofs.Values.{values_where-remove, remove-empty}
use Rattle.fluid_log.proofs.Covering.{below_insert}
use Rattle.fluid_log.proofs.memory_shelves.MemoryShelves.add.Goals as goal

pub invariant_of-self-2 : goal.invariant_of-self-2
invariant_of-self-2 c =
    let later : c.self.inside.faults ≤ c.max-self-inside.result = search rules in
    let within : c.args.keeper.plan.faults ≤ c.max-self-inside.result = search rules in
    rw c.in_ok-add.ensures.added (below_insert c.self.inside.places c.args.name (In c.args.keeper) c.self.inside.faults c.max-self-inside.result later c.self.invariant within)

pub returns-clause-whole : goal.returns-clause-whole
returns-clause-whole c = λ whole.
    let before : values_where given_with c.self.inside.places ≡ empty = rw (← c.self.view_is) at whole in
    ap (values_where given_with) c.in_ok-add.ensures.added
    ∙ values_where-remove given_with c.self.inside.places c.args.name (In c.args.keeper) refl
    ∙ ap (λ out. remove out c.args.name) before
    ∙ remove-empty c.args.name
