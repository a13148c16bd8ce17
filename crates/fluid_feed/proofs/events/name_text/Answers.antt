use Rattle.std.proofs.Common.{refl, ◌∙◌}
use Rattle.fluid_json.specs.Tree.{text}
use Rattle.fluid_feed.proofs.events.name_text.Goals as goal

pub returns : goal.returns
returns c = c.into_text.ensures (text c.args.name.now) (c.in_ok-text.ensures.tokens ∙ rw c.new-out.ensures.tokens (rw c.as_str.ensures.bytes refl))
