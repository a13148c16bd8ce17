use Rattle.std.proofs.Common.{◌≡◌, ℕ, Bool, true, false, cond, List, Option, Some, Ok, Err, ◌∙◌, ap, rules, inr, refl}
use Rattle.fluid_json.specs.Unless.{IsUnless}
use Rattle.fluid_store.specs.declared.fault.ObjectFault.TheVariants.{Failed, NoMemory}
use Rattle.fluid_store.proofs.Maps.{held_at}
use Rattle.fluid_store.proofs.memory.MemoryObjectsObjects.get.Goals as goal

answered : (fails : Bool) (found held : Option (List ℕ)) → false ≡ fails → found ≡ held → IsUnless {T = Option (List ℕ)} NoMemory (Ok found) (cond fails (Err Failed) (Ok held))
answered true found held none is = cc
answered false found held none is = inr (ap Ok is)

pub returns-in_default-clause-gets : goal.returns-in_default-clause-gets
returns-in_default-clause-gets c =
    let found = c.in_default.ensures.value ∙ held_at _ c.self.invariant.0 c.args.id.now in
    rw (← c.self.view_is) (record { content = refl; gets = search rules; later = c.fails.ensures.later; says = found })

pub returns-in_default-clause-exact : goal.returns-in_default-clause-exact
returns-in_default-clause-exact c =
    let found = c.in_default.ensures.value ∙ held_at _ c.self.invariant.0 c.args.id.now in
    rw (← c.self.view_is) (record { held = refl; gets = search rules; plan = c.fails.ensures.after; answer = answered _ _ _ c.if-fails.ensures.answer found })

pub returns-clause-gets : goal.returns-clause-gets
returns-clause-gets c =
    let found = ap Some c.in_ok-copy.ensures ∙ c.in-Some.ensures.value ∙ held_at _ c.self.invariant.0 c.args.id.now in
    rw (← c.self.view_is) (record { content = refl; gets = search rules; later = c.fails.ensures.later; says = found })

pub returns-clause-exact : goal.returns-clause-exact
returns-clause-exact c =
    let found = ap Some c.in_ok-copy.ensures ∙ c.in-Some.ensures.value ∙ held_at _ c.self.invariant.0 c.args.id.now in
    rw (← c.self.view_is) (record { held = refl; gets = search rules; plan = c.fails.ensures.after; answer = answered _ _ _ c.if-fails.ensures.answer found })
