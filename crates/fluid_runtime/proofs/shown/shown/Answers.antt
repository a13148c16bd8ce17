use Rattle.std.proofs.Common.{◌≡◌, ap, ap₂, ◌∙◌}
use Rattle.fluid_json.specs.Tree.{object, members}
use Rattle.fluid_runtime.specs.Shown.{shown_channel}
use Rattle.fluid_runtime.specs.Slots.{channel_of}
use Rattle.fluid_runtime.proofs.Nodes.{listed, pushed_on, at_end, member_pushed, shown_whole}
use Rattle.fluid_runtime.proofs.shown.shown.Goals as goal

pub push-requires : goal.push-requires
push-requires c =
    member_pushed (λ s. shown_channel (channel_of s)) c.args.slots.now.values c.as_slice-slice.result.now c.loop-address.pairs c.loop-address.address-index
    c.loop-address-item.result c.in_ok-name.name c.in_ok-channel.channel (listed c.args.slots.now.values _ c.as_slice-slice.ensures) c.loop-address.invariant c.loop-address-test.true
    c.loop-address-item.is c.in_ok-name.ensures c.in_ok-channel.ensures

pub loop-address-preserved : goal.loop-address-preserved
loop-address-preserved c =
    let own : c.in_ok-name.name ≡ c.loop-address-item.result.0 = c.in_ok-name.ensures in
    let made : c.in_ok-channel.channel ≡ shown_channel (channel_of c.loop-address-item.result.1) = c.in_ok-channel.ensures in
    pushed_on (λ e. (e.0, shown_channel (channel_of e.1))) c.as_slice-slice.result.now c.loop-address.pairs c.push.new.self c.loop-address.address-index
    c.loop-address-item.result _ c.in_ok-push.ensures.pushed c.loop-address.invariant c.loop-address-test.true c.loop-address-item.is (ap₂ (λ k v. (k, v)) own made)

pub returns : goal.returns
returns c =
    c.object.ensures
    ∙ ap (λ pairs. object (members pairs))
    (shown_whole c.args.slots.now.values c.as_slice-slice.result.now c.loop-address.pairs (listed c.args.slots.now.values _ c.as_slice-slice.ensures)
    (at_end (λ e. (e.0, shown_channel (channel_of e.1))) c.as_slice-slice.result.now c.loop-address.pairs c.loop-address.address-index c.loop-address.invariant
    c.loop-address-test.false))
