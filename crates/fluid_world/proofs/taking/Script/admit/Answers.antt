use Rattle.std.proofs.Common.{◌∙◌, sym}
use Rattle.fluid_world.specs.Going.{follows_itself}
use Rattle.fluid_world.proofs.Behind.{same_refusal}
use Rattle.fluid_world.proofs.taking.Script.admit.Goals as goal

pub returns-in-Some-clause-follows : goal.returns-in-Some-clause-follows
returns-in-Some-clause-follows g c = rw (← c.self.view_is) (follows_itself _)

pub returns-in-Some-clause-takes : goal.returns-in-Some-clause-takes
returns-in-Some-clause-takes g c = rw (← c.self.view_is) (λ w h. (same_refusal _ w h.stands.named c.args.step ∙ sym c.refusal.ensures ∙ c.in-Some.is, h))
