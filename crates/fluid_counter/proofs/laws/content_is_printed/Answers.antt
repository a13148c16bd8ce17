use Rattle.fluid_counter.proofs.Contents.{content-printed}
use Rattle.fluid_counter.proofs.laws.content_is_printed.Goals as goal

pub returns : goal.returns
returns c = content-printed
