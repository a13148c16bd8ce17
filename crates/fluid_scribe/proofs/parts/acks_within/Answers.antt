use Rattle.std.proofs.Common.{rules, ◌∙◌}
use Rattle.std.proofs.lemmas.Fn.{filter_same}
use Rattle.fluid_scribe.specs.Within.{is_acknowledged}
use Rattle.fluid_scribe.proofs.parts.acks_within.Goals as goal

pub returns : goal.returns
returns c = c.new.ensures ∙ filter_same _ (is_acknowledged c.args.last) _ (λ x b f' k. search rules) _ _ c.retain.ensures.filtered
