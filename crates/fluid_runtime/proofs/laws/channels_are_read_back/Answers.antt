use Rattle.fluid_runtime.proofs.ReadBack.{read_back}
use Rattle.fluid_runtime.proofs.laws.channels_are_read_back.Goals as goal

pub returns : goal.returns
returns c = λ channels storable. read_back c.content_is_read_back.ensures c.content_is_read_back-2.ensures channels storable
