-- What a range of messages is: the part of it that a keeper has, and the part that is in memory. Places are counted
-- from 0, so that message n stands in place n - 1.
use Rattle.std.specs.Prelude.{◌≡◌, ℕ, ◌+◌, ◌-◌, ◌<◌, ◌≤◌, ⊤, List, ◌++◌, length, take, drop, min, max, slice_get, Some, Result, Ok, Err, IfOk, IfErr}
use Rattle.fluid_io.specs.Causes.{Rose}
use Rattle.fluid_io.specs.declared.faults.FaultNote.{FaultNote}
use Rattle.fluid_types.specs.Order.{AreNumberedFrom}
use Rattle.fluid_types.specs.declared.messages.Message.{Message}
use Rattle.fluid_log.specs.Keeping.{Content, Keeping}
use Rattle.fluid_log.specs.Calls.{KeepsSame}
use Rattle.fluid_deltas.specs.Pages.{IsOnPage}
use Rattle.fluid_deltas.specs.declared.fault.DeltaFault.{DeltaFault}
use Rattle.fluid_deltas.specs.declared.fault.DeltaFault.TheVariants.{DeltaFailed, NoMemory, BadDelta, Worn}
use Rattle.fluid_deltas.specs.Pushed.{Pushed, pushed, slice}
use Rattle.fluid_deltas.specs.Stored.{delta_message, delta_messages}

-- the messages in memory among those of the places from `start` up to `end`
abbrev pub held_between : Pushed → (start end : ℕ) → List Message
held_between d start end = take (end - max start d.before) (drop (start - d.before) d.held)

-- the deltas in those places
abbrev pub deltas_between : Content → (start end : ℕ) → List (List ℕ)
deltas_between content start end = take (end - start) (drop start content.deltas)

-- behind the messages of the deltas those in memory
abbrev pub followed_by : Result (List Message) DeltaFault → List Message → Result (List Message) DeltaFault
followed_by (Ok first) held = Ok (first ++ held)
followed_by (Err fault) held = Err fault

-- the messages of a range, read from the deltas up to those in memory, or the fault of the first delta that doesn't decode
abbrev pub range_of : Pushed → Content → (from to : ℕ) → Result (List Message) DeltaFault
range_of d content from to =
    followed_by (delta_messages from (deltas_between content (from - 1) (min (to - 1) d.before))) (held_between d (from - 1) (to - 1))

-- each number of the range is one of a message in memory
abbrev pub AreHeld : Pushed → (from to : ℕ) → Type 0
AreHeld d from to = (n : ℕ) → from ≤ n → n < to → (d.before < n) × (n ≤ pushed d)

-- the range is empty, or one page in memory has all its numbers
abbrev pub AreOnPage : Pushed → (from to : ℕ) → Type 0
AreOnPage d from to = from < to → (d.before < from) × ((to ≤ pushed d + 1) × IsOnPage (from - 1 - d.before) (to - 1 - d.before))

-- ---- answers

-- the note has the two counts of faults that were read round the call that failed
pub record IsNoted (before now : ℕ) (note : FaultNote) : Type 0 where
  pub first : before ≤ note.before
  pub last : note.after ≡ now
  pub rose : Rose note.before note.after

-- why a fault came: the keeper's count rose where it says so. Which deltas can be bad is said apart
abbrev pub IsFaultOf : (before now : ℕ) → DeltaFault → Type 0
IsFaultOf before now (DeltaFailed note) = IsNoted before now note
IsFaultOf before now NoMemory = ⊤
IsFaultOf before now (BadDelta number) = ⊤
IsFaultOf before now Worn = ⊥

-- a bad delta is the one of this number
abbrev pub IsBadAt : ℕ → DeltaFault → Type 0
IsBadAt number (DeltaFailed note) = ⊤
IsBadAt number NoMemory = ⊤
IsBadAt number (BadDelta bad) = bad ≡ number
IsBadAt number Worn = ⊥

-- a bad delta is one of the range, and not of a message in memory
abbrev pub IsBadIn : (from to before : ℕ) → DeltaFault → Type 0
IsBadIn from to before (DeltaFailed note) = ⊤
IsBadIn from to before NoMemory = ⊤
IsBadIn from to before (BadDelta bad) = (from ≤ bad) × ((bad < to) × (bad ≤ before))
IsBadIn from to before Worn = ⊥

-- a bad delta is the one that the definition names. Want of memory and a keeper that failed may come before it
abbrev pub IsBadAs : Result (List Message) DeltaFault → DeltaFault → Type 0
IsBadAs answer (DeltaFailed note) = ⊤
IsBadAs answer NoMemory = ⊤
IsBadAs answer (BadDelta number) = answer ≡ Err (BadDelta number)
IsBadAs answer Worn = ⊥

-- what was answered is the definition's answer: its messages, or its bad delta
abbrev pub IsAnswer : {V : Type 0} → (V → List Message) → Result V DeltaFault → Result (List Message) DeltaFault → Type 0
IsAnswer messages (Ok v) answer = answer ≡ Ok (messages v)
IsAnswer messages (Err fault) answer = IsBadAs answer fault

-- a delta of the content answers so
pub record IsDelta (content : Content) (number : ℕ) (answer : Result Message DeltaFault) : Type 0 where
  pub text : List ℕ
  pub kept : slice_get content.deltas (number - 1) ≡ Some text
  pub decodes : delta_message number text ≡ answer

-- the answer for one delta is the definition's, likewise
abbrev pub DecodesAs : Content → ℕ → Result Message DeltaFault → Type 0
DecodesAs content number (Ok m) = IsDelta content number (Ok m)
DecodesAs content number (Err (DeltaFailed note)) = ⊤
DecodesAs content number (Err NoMemory) = ⊤
DecodesAs content number (Err (BadDelta bad)) = IsDelta content number (Err (BadDelta bad))
DecodesAs content number (Err Worn) = ⊥

-- no delta was bad
abbrev pub IsNotBad : DeltaFault → Type 0
IsNotBad (DeltaFailed note) = ⊤
IsNotBad NoMemory = ⊤
IsNotBad (BadDelta number) = ⊥
IsNotBad Worn = ⊥

-- the messages have the numbers of the range, in order
pub record AreNumbersOf (from to : ℕ) (messages : List Message) : Type 0 where
  pub numbered : AreNumberedFrom from messages
  pub count : from + length messages ≡ to

-- a range of the whole order was answered: its slice, and no bad delta
abbrev pub IsSlice : {V : Type 0} → (V → List Message) → List Message → Result V DeltaFault → Type 0
IsSlice messages slice (Ok v) = messages v ≡ slice
IsSlice messages slice (Err fault) = IsNotBad fault

-- the fault is want of memory
abbrev pub IsMemory : DeltaFault → Type 0
IsMemory (DeltaFailed note) = ⊥
IsMemory NoMemory = ⊤
IsMemory (BadDelta number) = ⊥
IsMemory Worn = ⊥

-- messages from memory alone were answered; only memory can be wanting then
abbrev pub IsHeldAnswer : {V : Type 0} → (V → List Message) → List Message → Result V DeltaFault → Type 0
IsHeldAnswer messages held (Ok v) = messages v ≡ held
IsHeldAnswer messages held (Err fault) = IsMemory fault

-- what reading messages leaves: a fault is one of the keeper that failed, want of memory, or a bad delta of the range;
-- messages have its numbers
pub record Reads {V : Type 0} (messages : V → List Message) (from to before : ℕ) (old new : Keeping) (result : Result V DeltaFault) : Type 0 where
  pub keeps : KeepsSame old new
  pub later : old.faults ≤ new.faults
  pub reads : new.reads ≡ old.reads
  pub cause : IfErr result (IsFaultOf old.faults new.faults)
  pub bad : IfErr result (IsBadIn from to before)
  pub numbers : IfOk result (λ v. AreNumbersOf from to (messages v))
