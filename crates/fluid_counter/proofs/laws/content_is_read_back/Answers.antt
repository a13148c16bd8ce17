use Rattle.fluid_counter.proofs.Contents.{content-answer}
use Rattle.fluid_counter.proofs.laws.content_is_read_back.Goals as goal

pub returns : goal.returns
returns c = content-answer
