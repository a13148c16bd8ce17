use Rattle.std.proofs.Common.{append-nil, sym, ◌∙◌}
use Rattle.fluid_checkpoint.proofs.Entered.{nothing_left}
use Rattle.fluid_checkpoint.proofs.heard.Moments.of.Goals as goal

pub returns : goal.returns
returns c =
    let none = nothing_left c.loop-id.id-iterator.rest.items (sym c.loop-id.invariant.len ∙ c.in-None.ensures.steps.0) in
    sym (append-nil c.loop-id.vec.items) ∙ (rw none at c.loop-id.invariant.done)
