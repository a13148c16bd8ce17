use Rattle.std.proofs.Common.{◌≡◌, ◌≤◌, None, option_and_then, sym, rules, arith, ◌∙◌}
use Rattle.std.specs.FinMap.{get}
use Rattle.fluid_log.specs.declared.place.Place.TheVariants.{Out}
use Rattle.fluid_log.specs.Places.{given_with}
use Rattle.fluid_log.proofs.Values.{get-values_where}
use Rattle.fluid_log.proofs.Covering.{covers, below_later, below_insert, gives, gives_below}
use Rattle.fluid_log.proofs.memory_shelves.MemoryShelvesShelves.keeper.Goals as goal

pub take-requires : goal.take-requires
take-requires c = sym (get-values_where given_with c.self.inside.places c.args.name.now) ∙ (rw (← c.self.view_is) at c.requires)

pub returns-then-fails-clause-covered : goal.returns-then-fails-clause-covered
returns-then-fails-clause-covered c =
    let later : c.self.inside.faults ≤ c.saturating_add-self-inside.result = search rules in
    covers c.self.inside.places c.fails.new.self c.saturating_add-self-inside.result (below_later c.self.inside.places c.self.inside.faults _ later c.self.invariant)

pub returns-in_err-keeper-clause-covered : goal.returns-in_err-keeper-clause-covered
returns-in_err-keeper-clause-covered c = rw c.in_err-keeper.ensures.same (covers c.self.inside.places c.fails.new.self c.self.inside.faults c.self.invariant)

pub invariant_of-self-2 : goal.invariant_of-self-2
invariant_of-self-2 c =
    let keeper = c.in_ok-keeper.keeper in
    let within = gives_below c.self.inside.places c.args.name.now keeper c.self.inside.faults c.self.invariant c.in_ok-keeper.ensures.keeper in
    rw c.in_ok-keeper.ensures.out (below_insert c.self.inside.places c.args.name.now (Out keeper.plan.faults) c.self.inside.faults c.self.inside.faults (omega arith) c.self.invariant within)

pub returns-clause-does : goal.returns-clause-does
returns-clause-does c =
    let inside : option_and_then given_with (get c.self.inside.places c.args.name.now) ≡ None =
    sym (get-values_where given_with c.self.inside.places c.args.name.now) ∙ (rw (← c.self.view_is) at c.requires) in
    rw (← c.self.view_is)
    (gives c.self.inside.places c.take.new.places c.self.inside.plan c.fails.new.self c.self.inside.faults c.args.name.now c.in_ok-keeper.keeper c.self.invariant inside c.in_ok-keeper.ensures.keeper c.in_ok-keeper.ensures.out)

pub returns-clause-covered : goal.returns-clause-covered
returns-clause-covered c =
    let keeper = c.in_ok-keeper.keeper in
    let within = gives_below c.self.inside.places c.args.name.now keeper c.self.inside.faults c.self.invariant c.in_ok-keeper.ensures.keeper in
    rw c.in_ok-keeper.ensures.out
    (covers _ c.fails.new.self c.self.inside.faults (below_insert c.self.inside.places c.args.name.now (Out keeper.plan.faults) c.self.inside.faults c.self.inside.faults (omega arith) c.self.invariant within))
