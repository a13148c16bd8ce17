-- When a quorum is that of an order's first messages.
use Rattle.std.specs.Prelude.{◌≡◌, List}
use Rattle.fluid_types.specs.declared.messages.Message.{Message}
use Rattle.fluid_types.specs.Quorum.{Quorum, quorum_of}
pub use Rattle.fluid_types.specs.Order.{AreNumberedFrom, AreFirst}

-- the quorum is the one of these messages, which are the first of an order
pub record StandsFor (ms : List Message) (q : Quorum) : Type 0 where
  pub order : AreFirst ms
  pub quorum : q ≡ quorum_of ms
