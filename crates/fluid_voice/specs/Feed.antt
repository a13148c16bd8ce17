-- The feed of a connection: the messages of its document's order, in op events.
use Rattle.std.specs.Prelude.{◌≡◌, ◌<◌, ◌≤◌, ℕ, zero, suc, ◌+◌, ◌-◌, Bool, true, false, List, [], ◌∷◌, ◌++◌, length, map, take, drop, All}
use Rattle.fluid_types.specs.declared.messages.Message.{Message}
use Rattle.fluid_codec.specs.declared.replies.Reply.{Reply}
use Rattle.fluid_codec.specs.declared.replies.Reply.TheVariants.{Ops}
use Rattle.fluid_voice.specs.declared.states.VoiceState.{VoiceState}
use Rattle.fluid_voice.specs.declared.states.VoiceState.TheVariants.{Fresh, Reading, Writing, Used}
use Rattle.fluid_voice.specs.States.{with_next}

-- the most messages of one op event
abbrev pub most_in_event : ℕ
most_in_event = 64

-- messages in batches, each as large as may be; there are not more batches than messages
abbrev pub batched : ℕ → List Message → List (List Message)
batched zero messages = []
batched (suc more) [] = []
batched (suc more) (m ∷ ms) = take most_in_event (m ∷ ms) ∷ batched more (drop most_in_event (m ∷ ms))

unfoldable pub batches : List Message → List (List Message)
batches messages = batched (length messages) messages

-- the op events that bring these messages of this document
abbrev pub events : List ℕ → List Message → List Reply
events name messages = map (Ops name) (batches messages)

-- what is collected of an order: the messages that weren't delivered
abbrev pub collected : List Message → VoiceState → List Reply
collected order (Reading name next) = events name (drop (next - 1) order)
collected order (Writing name id next) = events name (drop (next - 1) order)
collected order Fresh = []
collected order Used = []

-- where a connection stands then: what comes behind the last message is next
abbrev pub collected_state : List Message → VoiceState → VoiceState
collected_state order s = with_next (length order + 1) s

-- an op event
abbrev pub is_event : Reply → Bool
is_event (Ops name messages) = true
is_event reply = false

-- the messages that a reply brings to the feed: those of an op event
abbrev pub brought : Reply → List Message
brought (Ops name messages) = messages
brought reply = []

-- the messages of the op events among replies, joined
abbrev pub fed : List Reply → List Message
fed [] = []
fed (reply ∷ replies) = brought reply ++ fed replies

-- an event of the feed of this document: an op event with a message and no more than may be
abbrev pub IsEventOf : List ℕ → Reply → Type 0
IsEventOf name (Ops of_name messages) = (of_name ≡ name) × ((0 < length messages) × (length messages ≤ most_in_event))
IsEventOf name reply = ⊥

-- the events bring all of the messages in their order
abbrev pub EventsBringAll : Type 0
EventsBringAll = (name : List ℕ) (messages : List Message) → fed (events name messages) ≡ messages

-- and each of them is one of the feed
abbrev pub EventsAreWhole : Type 0
EventsAreWhole = (name : List ℕ) (messages : List Message) → All (IsEventOf name) (events name messages)
