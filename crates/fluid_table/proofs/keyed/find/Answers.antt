use Rattle.std.proofs.Common.{ap, sym, Some, ◌∙◌}
use Rattle.fluid_table.proofs.KeyedPlaces.{get_there, get_gap}
use Rattle.fluid_table.proofs.keyed.find.Goals as goal

pub returns-in-Ok-clause-found : goal.returns-in-Ok-clause-found
returns-in-Ok-clause-found g c =
    ap (λ e. Some (g.T.Entry.value_of e)) c.index-entries-at.is ∙ sym (get_there _ _ _ c.requires c.args.key.now _ c.in-Ok.ensures.found _)

pub returns-in-Err-clause-found : goal.returns-in-Err-clause-found
returns-in-Err-clause-found g c = sym (get_gap _ _ _ c.requires c.args.key.now _ c.in-Err.ensures.absent)
