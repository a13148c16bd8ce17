use Rattle.std.proofs.Common.{ap, sym, ◌∙◌}
use Rattle.fluid_quorum.proofs.Placed.{said, got}
use Rattle.fluid_quorum.proofs.places.look_up.Goals as goal

pub returns-in-Some : goal.returns-in-Some
returns-in-Some g c = c.as_ref.ensures.value ∙ ap said c.in-Some.ensures.value ∙ sym (got c.args.places.now c.requires c.args.key.now)

pub returns-in-None : goal.returns-in-None
returns-in-None g c = ap said c.in-None.ensures.value ∙ sym (got c.args.places.now c.requires c.args.key.now)
