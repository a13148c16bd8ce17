use Rattle.std.proofs.Common.{◌∙◌}
use Rattle.fluid_scribe.proofs.Versions.{node_is}
use Rattle.fluid_scribe.proofs.version.protocol_of.Goals as goal

pub returns : goal.returns
returns c = c.in_ok-state.ensures.node ∙ node_is _
