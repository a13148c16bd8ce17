-- What a connection owes that hears or is given something, on the lane of its document.
use Rattle.std.specs.Prelude.{◌≡◌, ℕ, ◌+◌, ◌-◌, List, [], ◌∷◌, ◌++◌, drop, length, map, Some, Result, Ok, Err, MatchResult}
use Rattle.fluid_types.specs.Ledger.{order}
use Rattle.fluid_types.specs.declared.entries.Raw.{Raw}
use Rattle.fluid_types.specs.declared.messages.Message.{Message}
use Rattle.fluid_rules.specs.declared.limits.Limits.{Limits}
use Rattle.fluid_store.specs.Storing.{Storing}
use Rattle.fluid_store.specs.declared.fault.StoreFault.{StoreFault}
use Rattle.fluid_store.specs.declared.fault.StoreFault.TheVariants as store
use Rattle.fluid_ends.specs.declared.fault.TalkFault.{TalkFault}
use Rattle.fluid_ends.specs.declared.fault.TalkFault.TheVariants as talk
use Rattle.fluid_lane.specs.Standing.{Standing}
use Rattle.fluid_voice.specs.declared.states.VoiceState.{VoiceState}
use Rattle.fluid_voice.specs.declared.states.VoiceState.TheVariants.{Fresh, Reading, Writing, Used}
use Rattle.fluid_voice.specs.Feed as feed
use Rattle.fluid_transcript.specs.World.{Document, ledger_of, with_entries}
use Rattle.fluid_transcript.specs.Connections.{Hearing}
use Rattle.fluid_transcript.specs.Lines.{reply_line, clash_line}
use Rattle.fluid_transcript.specs.Transcript.{written}
use Rattle.fluid_desk.specs.declared.stop.Stop.{Stop}
use Rattle.fluid_desk.specs.declared.stop.Stop.TheVariants.{StoreFault as StoreFailed, BadStored, NoMemory}
use Rattle.fluid_desk.specs.declared.stop.StoredFault.TheVariants.{Object}
use Rattle.fluid_desk.specs.Stands.{IsLaneOf}
use Rattle.fluid_desk.specs.Stopping.{stop_of, IsHonest, steps_on}
use Rattle.fluid_callers.specs.Ending.{delta_stop}

-- ---- hearing

-- so much was heard: lane, store and connection are as the acts leave them, and these lines were written
pub record HasHeard (limits : Limits) (d : Document) (h : Hearing) (lane : Standing) (store : Storing) (voice : VoiceState) (bytes : List ℕ) : Type 0 where
  pub stands : IsLaneOf limits lane (with_entries h.entries d)
  pub held : store.content ≡ Some h.store
  pub voice_is : voice ≡ h.voice
  pub says : bytes ≡ written h.lines

-- acts one after another
abbrev pub HearsBy : Limits → Document → Hearing → Standing → Storing → VoiceState → Result (List ℕ) Stop → Type 0
HearsBy limits d h lane store voice (Ok bytes) = HasHeard limits d h lane store voice bytes
HearsBy limits d h lane store voice (Err stop) = IsHonest (steps_on (with_entries h.entries d) lane) stop

-- one act, behind what was written before
abbrev pub HearsOne : Limits → Document → Hearing → Standing → Storing → VoiceState → (bytes : List ℕ) → Result (Unit {0}) Stop → Type 0
HearsOne limits d h lane store voice bytes (Ok done) = HasHeard limits d h lane store voice bytes
HearsOne limits d h lane store voice bytes (Err stop) = IsHonest (steps_on (with_entries h.entries d) lane) stop

-- what is written of an object that wasn't stored: that other bytes are held under its id
abbrev pub IsUnstored : (c : List ℕ) → StoreFault → (old new : List ℕ) → Result (Unit {0}) Stop → Type 0
IsUnstored c (store.Clash id kept bytes) old new result =
    MatchResult result (λ _. new ≡ old ++ written (clash_line c id ∷ [])) (λ stop. stop ≡ NoMemory)
IsUnstored c (store.StoreFailed note) old new result = result ≡ Err (StoreFailed note)
IsUnstored c store.NoMemory old new result = result ≡ Err NoMemory
IsUnstored c other old new result = result ≡ Err (BadStored (Object other))

-- and of an act that failed
abbrev pub IsUnheard : (c : List ℕ) → TalkFault → (old new : List ℕ) → Result (Unit {0}) Stop → Type 0
IsUnheard c (talk.Lane fault) old new result = result ≡ Err (stop_of fault)
IsUnheard c (talk.Delta fault) old new result = result ≡ Err (delta_stop fault)
IsUnheard c (talk.Store fault) old new result = IsUnstored c fault old new result
IsUnheard c (talk.Door fault) old new result = result ≡ Err NoMemory
IsUnheard c talk.NoMemory old new result = result ≡ Err NoMemory

-- acts that reach no open document: the connection is as they leave it, and these lines were written
pub record HasSaid (h : Hearing) (voice : VoiceState) (bytes : List ℕ) : Type 0 where
  pub voice_is : voice ≡ h.voice
  pub says : bytes ≡ written h.lines

abbrev pub SaysBy : Hearing → VoiceState → Result (List ℕ) Stop → Type 0
SaysBy h voice (Ok bytes) = HasSaid h voice bytes
SaysBy h voice (Err stop) = stop ≡ NoMemory

abbrev pub SaysOne : Hearing → VoiceState → (bytes : List ℕ) → Result (Unit {0}) Stop → Type 0
SaysOne h voice bytes (Ok done) = HasSaid h voice bytes
SaysOne h voice bytes (Err stop) = stop ≡ NoMemory

-- ---- collecting

-- the lines of the op events that bring these messages
abbrev pub event_lines : (c name : List ℕ) → List Message → List ℕ
event_lines c name messages = written (map (reply_line c) (feed.events name messages))

-- a connection to this document, to which the message of this number is delivered next
abbrev pub IsNextOf : (document : List ℕ) → (next : ℕ) → VoiceState → Type 0
IsNextOf document next Fresh = ⊥
IsNextOf document next (Reading name number) = (name ≡ document) × (number ≡ next)
IsNextOf document next (Writing name id number) = (name ≡ document) × (number ≡ next)
IsNextOf document next Used = ⊥

-- the messages of a document from this number on
pub record Fetched (limits : Limits) (d : Document) (from : ℕ) (lane : Standing) (messages : List Message) : Type 0 where
  pub stands : IsLaneOf limits lane d
  pub are : messages ≡ drop (from - 1) (order (ledger_of d))

-- the messages of a document that its connection wasn't given, and the number that is next then
pub record Gathers (limits : Limits) (d : Document) (c : List ℕ) (voice : VoiceState) (lane : Standing) (gathered : List ℕ × ℕ) : Type 0 where
  pub stands : IsLaneOf limits lane d
  pub says : gathered.0 ≡ written (map (reply_line c) (feed.collected (order (ledger_of d)) voice))
  pub next : gathered.1 ≡ length (order (ledger_of d)) + 1

abbrev pub GathersBy : Limits → Document → (c : List ℕ) → VoiceState → Standing → Result (List ℕ × ℕ) Stop → Type 0
GathersBy limits d c voice lane (Ok gathered) = Gathers limits d c voice lane gathered
GathersBy limits d c voice lane (Err stop) = IsHonest (steps_on d lane) stop

-- ---- closing

-- this entry was entered
abbrev pub EntersLane : Limits → Document → Raw → Standing → Result (Unit {0}) Stop → Type 0
EntersLane limits d raw new (Ok done) = IsLaneOf limits new (with_entries (raw ∷ []) d)
EntersLane limits d raw new (Err stop) = IsHonest (steps_on d new) stop
