use Rattle.std.proofs.Common.{rules, ap, ◌∙◌}
use Rattle.std.specs.Prelude.{filter}
use Rattle.std.proofs.lemmas.Fn.{filter_same}
use Rattle.fluid_scribe.specs.Within.{is_change}
use Rattle.fluid_scribe.proofs.parts.minima_within.Goals as goal

pub returns : goal.returns
returns c =
    let kept = filter_same _ (is_change c.args.base c.args.last) _ (λ x b f' k. search rules) _ _ c.retain.ensures.filtered in
    c.new.ensures ∙ kept ∙ ap (filter (is_change c.args.base c.args.last)) c.into_vec-changes.ensures
