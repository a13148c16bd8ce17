-- The quorum of messages is kept by its blobs.
use Rattle.std.specs.Prelude.{◌≡◌, List, All, Ok}
use Rattle.fluid_types.specs.Printed.{message_printed}
use Rattle.fluid_types.specs.Messages.{message_spelled}
use Rattle.fluid_types.specs.Quorum.{quorum_of}
use Rattle.fluid_types.specs.declared.messages.Message.{Message}
use Rattle.fluid_quorum.specs.Order.{AreFirst}
use Rattle.fluid_quorum.specs.Node.{node_of, AreTexts}
use Rattle.fluid_quorum.specs.Reading.{answer}

-- the message is read back from its printed text as itself
abbrev pub IsReadAsItself : Message → Type 0
IsReadAsItself m = message_spelled (message_printed m) ≡ Ok m

-- the quorum of an order's first messages is read back from its blobs, where each message is from its text. That the contents of
-- the blobs are UTF-8 is what `to_blobs` says of those that it writes
abbrev pub QuorumsAreReadBack : Type 0
QuorumsAreReadBack = (ms : List Message) → AreFirst ms → All IsReadAsItself ms → AreTexts (quorum_of ms) → answer (node_of (quorum_of ms)) ≡ Ok (quorum_of ms)
