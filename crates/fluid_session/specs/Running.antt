-- How a session goes on and why it stops.
use Rattle.std.specs.Prelude.{◌≡◌, ⊤, ℕ, ◌<◌, ◌≤◌, true, List, [], ◌∷◌, ◌++◌, Some, None, Result, Ok, Err}
use Rattle.fluid_io.specs.Causes.{Rose, Tells}
use Rattle.fluid_io.specs.declared.lines.TheConstants.{LONGEST_TEXT}
use Rattle.fluid_lines.specs.declared.wire.WireFault.{WireFault}
use Rattle.fluid_lines.specs.Wires.{Wiring, IsLongNext}
use Rattle.fluid_voice.specs.States.{is_connected}
use Rattle.fluid_ends.specs.declared.fault.TalkFault.{TalkFault}
use Rattle.fluid_talk.specs.Talking.{Talking}
use Rattle.fluid_talk.specs.Collecting.{FailsAs, IsCollectCause}
use Rattle.fluid_session.specs.declared.report.SessionEnd.{SessionEnd}
use Rattle.fluid_session.specs.declared.report.SessionEnd.TheVariants.{Closed, TooLong, Abused}
use Rattle.fluid_session.specs.declared.tally.Tally.{Tally}
use Rattle.fluid_session.specs.Ends.{end_of, wire_end, most_unread}
use Rattle.fluid_session.specs.Sending.{Passes, IsWireCause}
use Rattle.fluid_session.specs.Events.{Event, Stand, IsReached, AreEvents, AreWhole, history_of, counted_behind, Round, Collection}
use Rattle.fluid_session.specs.Events.Event.{brings, hears}

-- all but the last are whole, and the last is this one
pub record EndsIn (e : Event) (events : List Event) : Type 0 where
  pub prefix : List Event
  pub are : events ≡ prefix ++ e ∷ []
  pub whole : AreWhole prefix

-- What ends a session, behind these events, the last of which left the wire as `mid`. The wire: its texts are at their end, while all
-- that was seen is delivered; the next one is too long; or it failed while a text was received or one was sent. The connection: it
-- failed at a text, or while it collected. Or as many texts are unread as may be, and never more
pub data Stops (events : List Event) (m t : Talking) (old mid new : Wiring) (tally : Tally) (end : SessionEnd) : Type 0 where
  at_end : end ≡ Closed → AreWhole events → tally.unread < most_unread → t ≡ m → IsReached m → Tells mid.texts (λ texts. texts ≡ []) → Stops events m t old mid new tally end
  at_long : (size : ℕ) → end ≡ TooLong size → AreWhole events → tally.unread < most_unread → t ≡ m → LONGEST_TEXT < size → Tells mid.texts (IsLongNext size) → Stops events m t old mid new tally end
  at_receive : (fault : WireFault) → end ≡ wire_end fault → AreWhole events → tally.unread < most_unread → t ≡ m → IsWireCause old new fault → Stops events m t old mid new tally end
  at_feed : (c : Collection) (fault : WireFault) → end ≡ wire_end fault → EndsIn (brings c) events → tally.unread < most_unread → c.sending ≡ Err fault → t ≡ m → IsWireCause old new fault
      → Stops events m t old mid new tally end
  at_reply : (r : Round) (fault : WireFault) → end ≡ wire_end fault → EndsIn (hears r) events → tally.unread ≤ most_unread → r.sending ≡ Err fault → r.heard.fault ≡ None → t ≡ m → IsWireCause old new fault
      → Stops events m t old mid new tally end
  at_text : (r : Round) (fault : TalkFault) → end ≡ end_of fault → EndsIn (hears r) events → tally.unread ≤ most_unread → r.heard.fault ≡ Some fault → t ≡ m → Stops events m t old mid new tally end
  at_collection : (fault : TalkFault) → end ≡ end_of fault → AreWhole events → tally.unread < most_unread → is_connected m.voice ≡ true → FailsAs m t IsCollectCause fault → Stops events m t old mid new tally end
  at_count : end ≡ Abused most_unread → AreWhole events → tally.unread ≡ most_unread → t ≡ m → Stops events m t old mid new tally end

-- it goes on with fewer texts unread than may be, or stops
abbrev pub GoesOrStops : List Event → Talking → Talking → (old mid new : Wiring) → Tally → Result (Unit {0}) SessionEnd → Type 0
GoesOrStops events m t old mid new tally (Ok done) = AreWhole events × ((t ≡ m) × ((tally.unread < most_unread) × (new ≡ mid)))
GoesOrStops events m t old mid new tally (Err end) = Stops events m t old mid new tally end

-- the history stays; no count falls
pub record StaysBehind (mid new : Wiring) : Type 0 where
  pub history : new.history ≡ mid.history
  pub faults : mid.faults ≤ new.faults

-- what happened between two moments of a session: these events, and what stopped it behind them, if anything did
pub record Runs (s t : Stand) (old new : Wiring) (had has : Tally) (result : Result (Unit {0}) SessionEnd) : Type 0 where
  pub events : List Event
  pub behind_them : Talking
  pub are : AreEvents s events (record { talk = behind_them; store = t.store })
  pub mid : Wiring
  pub passes : Passes (history_of events) old mid
  pub stays : StaysBehind mid new
  pub counted : has ≡ counted_behind had events
  pub by : GoesOrStops events behind_them t.talk old mid new has result

-- ---- one cycle

-- it collects; where that failed it does nothing
abbrev pub IsFed : List Event → Result (Unit {0}) SessionEnd → Type 0
IsFed [] (Err end) = ⊤
IsFed (brings c ∷ []) result = ⊤
IsFed events result = ⊥

-- it hears one text; or none, where it ends or a receive was quiet
abbrev pub IsHeard : List Event → Result (Unit {0}) SessionEnd → (old new : Wiring) → Type 0
IsHeard [] (Ok done) old new = Rose old.quiets new.quiets
IsHeard [] (Err end) old new = ⊤
IsHeard (hears r ∷ []) result old new = ⊤
IsHeard events result old new = ⊥

-- one behind the other
abbrev pub IsCycle : List Event → Result (Unit {0}) SessionEnd → (old new : Wiring) → Type 0
IsCycle [] (Err end) old new = ⊤
IsCycle (brings c ∷ []) (Ok done) old new = Rose old.quiets new.quiets
IsCycle (brings c ∷ []) (Err end) old new = ⊤
IsCycle (brings c ∷ hears r ∷ []) result old new = ⊤
IsCycle events result old new = ⊥

pub record FeedsOnce (s t : Stand) (old new : Wiring) (had has : Tally) (result : Result (Unit {0}) SessionEnd) : Type 0 where
  pub runs : Runs s t old new had has result
  pub once : IsFed runs.events result

pub record HearsOnce (s t : Stand) (old new : Wiring) (had has : Tally) (result : Result (Unit {0}) SessionEnd) : Type 0 where
  pub runs : Runs s t old new had has result
  pub once : IsHeard runs.events result old new

-- what one cycle did: one collection, and behind it one receive
pub record CyclesOnce (s t : Stand) (old new : Wiring) (had has : Tally) (result : Result (Unit {0}) SessionEnd) : Type 0 where
  pub runs : Runs s t old new had has result
  pub once : IsCycle runs.events result old new
