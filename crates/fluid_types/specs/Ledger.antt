use Rattle.std.specs.Prelude.{ℕ, List, [], ◌∷◌, ◌++◌, length, map}
use Rattle.fluid_types.specs.declared.entries.Raw.{Raw}
use Rattle.fluid_types.specs.declared.messages.Message.{Message}
use Rattle.fluid_types.specs.declared.verdicts.Verdict.{Verdict}
use Rattle.fluid_types.specs.declared.verdicts.Verdict.TheVariants.{Sequenced, Nacked, Dropped, Absorbed}

-- a ledger list: the raw entries that a document was handed, each with its verdict, oldest first
abbrev pub Ledger : Type 0
Ledger = List (Raw × Verdict)

-- the message of a sequenced entry; none for a nack, a dropped or an absorbed entry
abbrev pub messages_of : Verdict → List Message
messages_of (Sequenced message) = message ∷ []
messages_of (Nacked nack) = []
messages_of Dropped = []
messages_of Absorbed = []

-- the order of a ledger: the messages of its sequenced entries
unfoldable pub order : Ledger → List Message
order [] = []
order (entry ∷ ledger) = messages_of entry.1 ++ order ledger

-- the last sequence number: how many messages are in the order
unfoldable pub seq : Ledger → ℕ
seq ledger = length (order ledger)

-- the raw entries of a ledger
unfoldable pub raws : Ledger → List Raw
raws ledger = map (λ entry. entry.0) ledger
