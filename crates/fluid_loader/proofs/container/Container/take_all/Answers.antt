use Rattle.std.proofs.Common.{rules, ◌≡◌, suc, ◌∷◌, length, ap, arith}
use Rattle.fluid_loader.proofs.Behind.{prefix_more, next_ones, next_number, stops_in_prefix}
use Rattle.fluid_loader.proofs.container.Container.take_all.Goals as goal

pub loop-message-preserved : goal.loop-message-preserved
loop-message-preserved c =
    let m = c.in-Some.message in
    let ahead = c.loop-message.message-iterator.rest.items in
    let rest = c.next.new.self.rest.items in
    let now = c.loop-message.self in
    let left : ahead ≡ m ∷ rest = c.in-Some.ensures.steps.0 in
    let long : length ahead ≡ suc (length rest) = ap length left in
    let number = next_number c.args.own.now now c.take.new.self ahead rest m left c.in_ok-take.ensures.taken c.loop-message.invariant.next in
    record {
      len = search rules;
      prefix = prefix_more c.args.own.now c.args.self.now now c.take.new.self c.args.messages ahead rest m left c.in_ok-take.ensures.taken c.loop-message.invariant.prefix;
      next = next_ones c.args.own.now now c.take.new.self ahead rest m left c.in_ok-take.ensures.taken c.loop-message.invariant.next;
      fit = omega (arith, c.loop-message.invariant.fit, long, number);
    }

pub returns-in_err-take-clause-fault : goal.returns-in_err-take-clause-fault
returns-in_err-take-clause-fault c =
    stops_in_prefix c.from_residual.result c.args.own.now c.args.self.now c.loop-message.self c.take.new.self c.args.messages c.loop-message.message-iterator.rest.items c.next.new.self.rest.items
    c.in-Some.message c.in-Some.ensures.steps.0 c.in_err-take.ensures.fault c.loop-message.invariant.prefix
