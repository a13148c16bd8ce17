use Rattle.std.proofs.Common.{◌≡◌, ap₂}
use Rattle.fluid_runtime.specs.Slots.{settled_slot, settled_object}
use Rattle.fluid_runtime.proofs.Nodes.{pushed_on}
use Rattle.fluid_runtime.proofs.slots.copy_pairs.Goals as goal

pub loop-address-preserved : goal.loop-address-preserved
loop-address-preserved c =
    let own : c.in_ok-address.address ≡ c.loop-address-item.result.0 = c.in_ok-address.ensures in
    let same : c.in_ok-object.object ≡ settled_object c.loop-address-item.result.1.object = c.in_ok-object.ensures in
    pushed_on (λ e. (e.0, settled_slot e.1)) c.args.slots.now c.loop-address.copies.items c.push.new.self.items c.loop-address.address-index c.loop-address-item.result _
    c.in_ok-push.ensures.items c.loop-address.invariant c.loop-address-test.true c.loop-address-item.is
    (ap₂ (λ k o. (k, record { object = o; last = c.loop-address-item.result.1.last })) own same)
