use Rattle.std.proofs.Common.{◌∙◌, ap}
use Rattle.std.specs.FinMap.{len}
use Rattle.fluid_store.proofs.Maps.{length_held}
use Rattle.fluid_store.proofs.memory.MemoryObjects.count.Goals as goal

pub returns : goal.returns
returns c = c.len.ensures.len ∙ length_held _ c.self.invariant.0 ∙ ap (λ m. len m.held) c.self.view_is
