use Rattle.std.proofs.Common.{◌-◌, ◌^◌}
use Rattle.fluid_runtime.specs.Slots.{channels_of}
use Rattle.fluid_runtime.proofs.Marked.{none_changed}
use Rattle.fluid_runtime.proofs.app.App.mark.Goals as goal

pub returns : goal.returns
returns c =
    rw (← c.self.view_is)
    (λ i. record {
      channels = channels_of c.self.inside.slots.values;
      changed = none_changed c.self.inside.taken c.self.inside.slots.values c.self.invariant.0 i;
      pending = c.self.inside.pending.items;
      room = 2 ^ 64 - c.self.inside.taken;
    })
