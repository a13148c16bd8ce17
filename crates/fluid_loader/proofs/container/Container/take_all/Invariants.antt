use Rattle.std.proofs.Common.{◌≡◌, ◌+◌, ◌<◌, ◌^◌, ◌++◌, List, length}
use Rattle.fluid_types.specs.Order.{AreNumberedFrom}
use Rattle.fluid_types.specs.declared.messages.Message.{Message}
use Rattle.fluid_loader.specs.Container.{behind}
use Rattle.fluid_loader.proofs.container.Container.take_all.Given as goal

-- the container is behind the messages so far, and those left are the next ones
abbrev pub invariant-loop-message : goal.invariant-loop-message
invariant-loop-message l = record {
  len : l.message-iterator.rest.len ≡ length l.message-iterator.rest.items;
  prefix : (prefix : List Message) × ((l.fn.messages ≡ prefix ++ l.message-iterator.rest.items) × (l.self ≡ behind l.own l.fn.self prefix));
  next : AreNumberedFrom (l.self.number + 1) l.message-iterator.rest.items;
  fit : l.self.number + length l.message-iterator.rest.items < 2 ^ 53;
}
