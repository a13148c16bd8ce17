use Rattle.fluid_rules.proofs.Computed.{whole_story}
use Rattle.fluid_rules.proofs.examples.whole_story.Goals as goal

pub returns : goal.returns
returns c = whole_story
