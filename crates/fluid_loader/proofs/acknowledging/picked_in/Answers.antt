use Rattle.std.proofs.Common.{◌-◌, take, sym, ap, ◌∙◌, arith}
use Rattle.std.specs.Option.{option_or}
use Rattle.fluid_loader.specs.Link.{picked}
use Rattle.fluid_loader.specs.Listed.{wanted}
use Rattle.fluid_loader.proofs.Acks.{one_before, none_picked, first_ones}
use Rattle.fluid_loader.proofs.acknowledging.picked_in.Goals as goal

pub loop-behind-preserved : goal.loop-behind-preserved
loop-behind-preserved c =
    let pick = c.args.pick.now in
    let order = c.args.order.now in
    let n = c.loop-behind.behind in
    let within = c.loop-behind.invariant.within in
    let earlier = picked pick (take (n - 1) order) in
    let none = sym (c.wanted.ensures ∙ ap (wanted pick) c.ack_of-ack.ensures) ∙ c.in_default.is in
    record {
      within = omega (arith, within);
      before = sym (one_before pick order n c.index-order-behind.result c.loop-behind-test.true within c.index-order-behind.is ∙ ap (λ o. option_or o earlier) none) ∙ c.loop-behind.invariant.before;
    }

pub returns-in-Some : goal.returns-in-Some
returns-in-Some c =
    let pick = c.args.pick.now in
    let order = c.args.order.now in
    let n = c.loop-behind.behind in
    let earlier = picked pick (take (n - 1) order) in
    let found = sym (c.wanted.ensures ∙ ap (wanted pick) c.ack_of-ack.ensures) ∙ c.in-Some.is in
    sym (one_before pick order n c.index-order-behind.result c.loop-behind-test.true c.loop-behind.invariant.within c.index-order-behind.is ∙ ap (λ o. option_or o earlier) found) ∙ c.loop-behind.invariant.before

pub returns : goal.returns
returns c = sym (none_picked c.args.pick.now c.args.order.now c.loop-behind.behind c.loop-behind-test.false) ∙ c.loop-behind.invariant.before

pub ack_of-ack-requires : goal.ack_of-ack-requires
ack_of-ack-requires c = first_ones (c.loop-behind.behind - 1) c.args.order.now c.requires
