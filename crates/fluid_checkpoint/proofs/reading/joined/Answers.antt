use Rattle.std.proofs.Common.{sym, ◌∙◌}
use Rattle.fluid_checkpoint.proofs.Entered.{nothing_left}
use Rattle.fluid_checkpoint.proofs.Joined.{all_are_in}
use Rattle.fluid_checkpoint.proofs.reading.joined.Goals as goal

pub returns : goal.returns
returns c =
    let none = nothing_left c.loop-id.id-iterator.rest.items (sym c.loop-id.invariant.len ∙ c.in-None.ensures.steps.0) in
    (rw none at c.loop-id.invariant.done) ∙ all_are_in c.args.rows
