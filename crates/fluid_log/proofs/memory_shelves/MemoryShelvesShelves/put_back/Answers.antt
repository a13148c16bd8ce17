use Rattle.std.proofs.Common.{ℕ, ◌≡◌, ap, ◌∙◌}
use Rattle.fluid_log.specs.declared.place.Place.TheVariants.{Out}
use Rattle.fluid_log.specs.Places.{faults_back}
use Rattle.fluid_log.proofs.Covering.{covers, out_there, puts_below, puts_back}
use Rattle.fluid_log.proofs.memory_shelves.MemoryShelvesShelves.put_back.Goals as goal

pub replace-before-requires : goal.replace-before-requires
replace-before-requires c = out_there c.self.inside.places c.args.name.now (rw (← c.self.view_is) at c.requires)

pub invariant_of-self : goal.invariant_of-self
invariant_of-self c =
    let counted : (given : ℕ) → c.replace-before.result ≡ Out given → c.counted-self-inside.result ≡ faults_back given c.args.keeper.plan.faults c.self.inside.faults =
    λ given is. c.counted-self-inside.ensures.given given is ∙ ap (λ back. faults_back given back c.self.inside.faults) c.faults-back.ensures in
    rw c.replace-before.ensures.after
    (puts_below c.self.inside.places c.args.name.now c.args.keeper c.replace-before.result c.self.inside.faults c.counted-self-inside.result c.self.invariant (rw (← c.self.view_is) at c.requires) c.replace-before.ensures.before counted c.counted-self-inside.ensures.later)

pub returns-clause-does : goal.returns-clause-does
returns-clause-does c =
    let counted : (given : ℕ) → c.replace-before.result ≡ Out given → c.counted-self-inside.result ≡ faults_back given c.args.keeper.plan.faults c.self.inside.faults =
    λ given is. c.counted-self-inside.ensures.given given is ∙ ap (λ back. faults_back given back c.self.inside.faults) c.faults-back.ensures in
    rw (← c.self.view_is)
    (puts_back c.self.inside.places c.replace-before.new.self c.self.inside.plan c.self.inside.faults c.counted-self-inside.result c.args.name.now c.args.keeper c.replace-before.result c.replace-before.ensures.before c.replace-before.ensures.after counted c.counted-self-inside.ensures.later)

pub returns-clause-covered : goal.returns-clause-covered
returns-clause-covered c =
    let counted : (given : ℕ) → c.replace-before.result ≡ Out given → c.counted-self-inside.result ≡ faults_back given c.args.keeper.plan.faults c.self.inside.faults =
    λ given is. c.counted-self-inside.ensures.given given is ∙ ap (λ back. faults_back given back c.self.inside.faults) c.faults-back.ensures in
    rw c.replace-before.ensures.after
    (covers _ c.self.inside.plan c.counted-self-inside.result
    (puts_below c.self.inside.places c.args.name.now c.args.keeper c.replace-before.result c.self.inside.faults c.counted-self-inside.result c.self.invariant (rw (← c.self.view_is) at c.requires) c.replace-before.ensures.before counted c.counted-self-inside.ensures.later))
