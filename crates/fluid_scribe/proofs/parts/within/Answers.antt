use Rattle.std.proofs.Common.{ap, ◌∙◌}
use Rattle.std.specs.Prelude.{filter}
use Rattle.fluid_types.specs.Quorum.{Quorum}
use Rattle.fluid_scribe.specs.Within.{is_change, is_acknowledged, within}
use Rattle.fluid_scribe.proofs.Alike.{same_parts}
use Rattle.fluid_scribe.proofs.parts.within.Goals as goal

pub returns : goal.returns
unfolding within
returns c =
    let based = c.number.ensures ∙ ap (λ (q : Quorum). q.number) c.base_within-base.ensures in
    same_parts _ _ c.base_within-base.ensures c.behind_within-behind.ensures
    (c.minima_within-minima.ensures ∙ ap (λ base. filter (is_change base c.args.last) c.args.state.minima) based) c.pending_within-pending.ensures
    (c.acks_within.ensures ∙ ap (filter (is_acknowledged c.args.last)) c.into_vec-acks.ensures)
