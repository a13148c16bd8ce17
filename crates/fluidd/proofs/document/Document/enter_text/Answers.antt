use Rattle.std.proofs.Common.{rules}
use Rattle.fluid_codec.proofs.Ranges.{spelled-in_range}
use Rattle.fluidd.proofs.Grown.{enters-spelled, unless-ok}
use Rattle.fluidd.proofs.document.Document.enter_text.Goals as goal

pub admit-requires-clause-in_range : goal.admit-requires-clause-in_range
admit-requires-clause-in_range c = spelled-in_range _ _ (unless-ok _ _ _ c.in-Ok.ensures)

pub returns-clause-enters : goal.returns-clause-enters
returns-clause-enters c =
    λ limits l stands. enters-spelled limits l _ _ _ _ _ _ (search rules) (unless-ok _ _ _ c.in-Ok.ensures) (c.admit.ensures.admits limits l stands)
