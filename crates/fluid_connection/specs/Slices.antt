-- What is collected, slice by slice.
use Rattle.std.specs.Prelude.{◌≡◌, ◌<◌, ◌≤◌, ℕ, ◌+◌, true, List, [], ◌∷◌, ◌++◌, length, All, Result, Ok, Err}
use Rattle.fluid_types.specs.declared.messages.Message.{Message}
use Rattle.fluid_types.specs.Order.{AreNumberedFrom}
use Rattle.fluid_types.specs.Forms.{largest}
use Rattle.fluid_deltas.specs.Pushed.{slice}
use Rattle.fluid_deltas.specs.Ranges.{AreNumbersOf}
use Rattle.fluid_deltas.specs.declared.fault.DeltaFault.{DeltaFault}
use Rattle.fluid_doors.specs.Collecting.{batch}
use Rattle.fluid_codec.specs.declared.replies.Reply.{Reply}
use Rattle.fluid_codec.specs.declared.replies.Reply.TheVariants.{Ops}
use Rattle.fluid_voice.specs.Feed.{fed, IsEventOf, most_in_event}
use Rattle.fluid_ends.specs.declared.fault.TalkFault.{TalkFault}
use Rattle.fluid_ends.specs.declared.fault.TalkFault.TheVariants.{NoMemory}
use Rattle.fluid_ends.specs.Faults.{of_delta, talk_steps}
use Rattle.fluid_service.specs.Visiting.{Visiting}
use Rattle.fluid_talk.specs.Talking.{Knowing, Goes, order_of, number_behind_last}
use Rattle.fluid_talk.specs.Collecting.{IsCollectCause}
use Rattle.fluid_connection.specs.declared.collecting.Slice.{Slice}
use Rattle.fluid_connection.specs.declared.collecting.Collected.{Collected}

-- ---- one slice

-- an event that brings these messages; none where there are none
abbrev pub event_of : List ℕ → List Message → List Reply
event_of name [] = []
event_of name (m ∷ ms) = Ops name (m ∷ ms) ∷ []

-- the messages of a slice were put into an event behind the others. There may be more only where it has as many as may be
pub record PutsEvent (name : List ℕ) (from : ℕ) (messages : List Message) (old new : List Reply) (slice_is : Slice) : Type 0 where
  pub put : new ≡ old ++ event_of name messages
  pub next : slice_is.next ≡ from + length messages
  pub last : slice_is.is_last ≡ true → length messages < most_in_event

-- by what the door gave: want of memory alone loses messages
abbrev pub PutsAnswer : {V : Type 0} → (V → List Message) → (name : List ℕ) (next : ℕ) → (old new : List Reply) → Result V DeltaFault → Result Slice TalkFault → Type 0
PutsAnswer messages name next old new (Ok v) (Ok slice_is) = PutsEvent name next (messages v) old new slice_is
PutsAnswer messages name next old new (Ok v) (Err fault) = fault ≡ NoMemory
PutsAnswer messages name next old new (Err fault) (Ok slice_is) = ⊥
PutsAnswer messages name next old new (Err fault) (Err given) = given ≡ of_delta fault

-- the next messages were collected, at most as many as an event brings
pub record TakesSlice (name : List ℕ) (p q : Knowing) (next : ℕ) (old new : List Reply) (slice_is : Slice) : Type 0 where
  pub goes : Goes p q []
  pub messages : List Message
  pub puts : PutsEvent name next messages old new slice_is
  pub numbered : AreNumberedFrom next messages
  pub few : length messages ≤ most_in_event
  pub told : p.told ≡ true → messages ≡ batch next most_in_event (order_of q.seen)

-- nothing was, and the pass has the note of a keeper that failed
pub record FailsToCollect (p q : Knowing) (fault : TalkFault) : Type 0 where
  pub goes : Goes p q (talk_steps fault)
  pub cause : IsCollectCause q fault

abbrev pub TakesNext : (name : List ℕ) (p q : Knowing) (next : ℕ) → (old new : List Reply) → Result Slice TalkFault → Type 0
TakesNext name p q next old new (Ok slice_is) = TakesSlice name p q next old new slice_is
TakesNext name p q next old new (Err fault) = FailsToCollect p q fault

-- ---- all of them

-- where the keeper tells its content, they are the stretch of the order from one number to before another, which isn't above the one
-- behind the last
pub record IsStretch (q : Knowing) (from to : ℕ) (messages : List Message) : Type 0 where
  pub is : messages ≡ slice (order_of q.seen) from to
  pub within : to ≤ number_behind_last q.seen

-- op events of the document bring the messages from one number to before another
pub record Brings (name : List ℕ) (p q : Knowing) (from to : ℕ) (replies : List Reply) : Type 0 where
  pub goes : Goes p q []
  pub events : All (IsEventOf name) replies
  pub numbers : AreNumbersOf from to (fed replies)
  pub told : p.told ≡ true → IsStretch q from to (fed replies)

-- up to the last of all that is seen then
pub record BringsAll (name : List ℕ) (p q : Knowing) (from : ℕ) (collected : Collected) : Type 0 where
  pub brings : Brings name p q from collected.next collected.events
  pub last : p.told ≡ true → collected.next ≡ number_behind_last q.seen

abbrev pub CollectsAll : (name : List ℕ) (p q : Knowing) (from : ℕ) → Result Collected TalkFault → Type 0
CollectsAll name p q from (Ok collected) = BringsAll name p q from collected
CollectsAll name p q from (Err fault) = FailsToCollect p q fault

-- ---- a visit that comes back

-- by the same door
pub record ComesBack (old new : Visiting) : Type 0 where
  pub door : new.door ≡ old.door
  pub few : length new.pass.seen ≤ largest
