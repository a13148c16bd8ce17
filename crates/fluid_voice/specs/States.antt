-- Where a connection stands.
use Rattle.std.specs.Prelude.{ℕ, ◌+◌, ◌^◌, ◌-◌, min, max, Bool, true, false, List, Option, Some, None, is_some, option_map}
use Rattle.fluid_types.specs.declared.entries.Raw.{Raw}
use Rattle.fluid_types.specs.declared.entries.Raw.TheVariants.{Leave}
use Rattle.fluid_voice.specs.declared.states.VoiceState.{VoiceState}
use Rattle.fluid_voice.specs.declared.states.VoiceState.TheVariants.{Fresh, Reading, Writing, Used}

-- the name of the document to which it is connected
abbrev pub document_name : VoiceState → Option (List ℕ)
document_name Fresh = None
document_name (Reading name next) = Some name
document_name (Writing name id next) = Some name
document_name Used = None

-- the id of the client as which it writes
abbrev pub client_id : VoiceState → Option (List ℕ)
client_id Fresh = None
client_id (Reading name next) = None
client_id (Writing name id next) = Some id
client_id Used = None

abbrev pub is_connected : VoiceState → Bool
is_connected s = is_some (document_name s)

-- it has been connected to no document
abbrev pub is_fresh : VoiceState → Bool
is_fresh Fresh = true
is_fresh (Reading name next) = false
is_fresh (Writing name id next) = false
is_fresh Used = false

-- it has left
abbrev pub is_used : VoiceState → Bool
is_used Fresh = false
is_used (Reading name next) = false
is_used (Writing name id next) = false
is_used Used = true

-- the number of the message that is delivered next, and 0 where there is no document
abbrev pub next_number : VoiceState → ℕ
next_number Fresh = 0
next_number (Reading name next) = next
next_number (Writing name id next) = next
next_number Used = 0

-- the same, with this number as the next one, which never falls
abbrev pub with_next : ℕ → VoiceState → VoiceState
with_next number Fresh = Fresh
with_next number (Reading name next) = Reading name (max next number)
with_next number (Writing name id next) = Writing name id (max next number)
with_next number Used = Used

-- the number behind another one; behind the last of 64 bits there is none, and it stands still
abbrev pub number_behind : ℕ → ℕ
number_behind number = min (number + 1) (2 ^ 64 - 1)

-- the entry by which it leaves: only a client that writes is joined
abbrev pub leave_of : ℕ → VoiceState → Option Raw
leave_of moment s = option_map (λ id. Leave id moment) (client_id s)
