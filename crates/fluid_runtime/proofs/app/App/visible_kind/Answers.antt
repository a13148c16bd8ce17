use Rattle.std.proofs.Common.{◌≡◌, Some, None, sym, ap, ap₂, ◌∙◌}
use Rattle.std.specs.Option.{option_or}
use Rattle.std.specs.FinMap.{get}
use Rattle.fluid_runtime.specs.Kinds.{first_attached}
use Rattle.fluid_runtime.specs.Slots.{channel_of, channels_of}
use Rattle.fluid_runtime.proofs.Attached.{kind_found, kind_pending}
use Rattle.fluid_runtime.proofs.Each.{get_found, get_absent}
use Rattle.fluid_runtime.proofs.Laid.{attached_in_both}
use Rattle.fluid_runtime.proofs.Told.{absent_if}
use Rattle.fluid_runtime.proofs.app.App.visible_kind.Goals as goal

pub returns-in-Some : goal.returns-in-Some
returns-in-Some c =
    let slots = c.self.inside.slots.values in
    let found : get c.self.inside.slots.values c.args.address.now ≡ Some c.in-Some.slot.now = sym c.in-Some.ensures in
    rw (← c.self.view_is)
    (ap Some c.kind.ensures
    ∙ sym (kind_found (channels_of slots) c.self.inside.pending.items c.args.address.now (channel_of c.in-Some.slot.now)
    (get_found channel_of slots c.args.address.now c.in-Some.slot.now found)))

pub returns : goal.returns
returns c =
    let slots = c.self.inside.slots.values in
    let none : get c.self.inside.slots.values c.args.address.now ≡ None = sym c.get.ensures ∙ absent_if _ c.get.result c.in_default.is in
    rw (← c.self.view_is)
    (c.or.ensures
    ∙ ap₂ option_or c.first_attached.ensures c.first_attached-2.ensures
    ∙ sym (attached_in_both c.args.address.now c.as_slices.result.0.now c.as_slices.result.1.now)
    ∙ ap (first_attached c.args.address.now) c.as_slices.ensures.items
    ∙ sym (kind_pending (channels_of slots) c.self.inside.pending.items c.args.address.now (get_absent channel_of slots c.args.address.now none)))
