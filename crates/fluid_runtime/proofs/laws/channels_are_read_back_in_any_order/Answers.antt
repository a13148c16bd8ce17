use Rattle.fluid_runtime.proofs.AnyOrder.{read_back_so}
use Rattle.fluid_runtime.proofs.laws.channels_are_read_back_in_any_order.Goals as goal

pub returns : goal.returns
returns c = λ channels pairs storable are. read_back_so c.content_is_read_back.ensures c.content_is_read_back-2.ensures channels storable pairs are
