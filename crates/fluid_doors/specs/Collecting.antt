-- Messages that a reader gets.
use Rattle.std.specs.Prelude.{◌≡◌, ⊤, ℕ, ◌+◌, ◌-◌, ◌<◌, ◌≤◌, min, true, List, [], length, Option, Some, None, Result, IfOk, IfErr}
use Rattle.fluid_io.specs.Causes.{Rose}
use Rattle.fluid_types.specs.Ledger.{order}
use Rattle.fluid_types.specs.Order.{AreNumberedFrom}
use Rattle.fluid_types.specs.declared.messages.Message.{Message}
use Rattle.fluid_rules.specs.Rules.{IsLegal}
use Rattle.fluid_deltas.specs.Pushed.{slice}
use Rattle.fluid_deltas.specs.Ranges.{IsNoted}
use Rattle.fluid_deltas.specs.declared.fault.DeltaFault.{DeltaFault}
use Rattle.fluid_deltas.specs.declared.fault.DeltaFault.TheVariants.{DeltaFailed, NoMemory, BadDelta, Worn}
use Rattle.fluid_codec.specs.declared.replies.Reply.{Reply}
use Rattle.fluid_codec.specs.declared.replies.Reply.TheVariants.{Ops}
use Rattle.fluid_voice.specs.Feed.{brought}
use Rattle.fluid_types.specs.Forms.{largest}
use Rattle.fluid_lane.specs.declared.steps.Step.{Step}
use Rattle.fluid_lane.specs.Steps.{ledger}
use Rattle.fluid_doors.specs.declared.bench.Terms.{Terms}
use Rattle.fluid_doors.specs.Answers.{is_worn_behind}

-- the messages that a collection gives: those of its event, if there is one
abbrev pub gathered : Option Reply → List Message
gathered None = []
gathered (Some reply) = brought reply

-- an event of the document of this name, with a message
abbrev pub IsEventUnder : List ℕ → Option Reply → Type 0
IsEventUnder name None = ⊤
IsEventUnder name (Some (Ops of_name messages)) = (of_name ≡ name) × (0 < length messages)
IsEventUnder name (Some reply) = ⊥

-- the messages from the number `next` on, at most so many; none where the order ends before it
abbrev pub batch : (next atmost : ℕ) → List Message → List Message
batch next atmost order = slice order next (next + min atmost (length order + 1 - next))

-- the keeper failed, memory was wanting, or the document is worn
abbrev pub IsReadFault : DeltaFault → Type 0
IsReadFault (DeltaFailed note) = ⊤
IsReadFault NoMemory = ⊤
IsReadFault (BadDelta number) = ⊥
IsReadFault Worn = ⊤

abbrev pub IsWornDelta : DeltaFault → Type 0
IsWornDelta Worn = ⊤
IsWornDelta other = ⊥

pub record CollectsTold {V : Type 0} (messages : V → List Message) (next atmost : ℕ) (result : Result V DeltaFault) (l : List Step) : Type 0 where
  pub legal : IsLegal (ledger l)
  pub given : IfOk result (λ v. messages v ≡ batch next atmost (order (ledger l)))
  -- a delta is never bad
  pub faults : IfErr result IsReadFault

-- at most so many messages, numbered from the next number on
pub record AreNext (next atmost : ℕ) (messages : List Message) : Type 0 where
  pub numbered : AreNumberedFrom next messages
  pub few : length messages ≤ atmost
  pub last : 0 < length messages → next + length messages ≤ largest + 1

-- a fault of the keeper has its counts of faults that were read in this call, and they rose
abbrev pub IsReadCause : (before now : ℕ) → DeltaFault → Type 0
IsReadCause before now (DeltaFailed note) = IsNoted before now note
IsReadCause before now other = ⊤

-- the keeper failed, and its count of faults rose, or a bad delta is one of the numbers from the first to before the end
abbrev pub IsFaultIn : (first end : ℕ) → DeltaFault → Type 0
IsFaultIn first end (DeltaFailed note) = Rose note.before note.after
IsFaultIn first end (BadDelta number) = (first ≤ number) × (number < end)
IsFaultIn first end other = ⊤

-- the next messages of the ledger's order. Over any keeper what is given has the next numbers, and worn comes only where the list
-- is as long as may be
pub record Collects {V : Type 0} (messages : V → List Message) (t : Terms) (next atmost : ℕ) (result : Result V DeltaFault) (l : List Step) : Type 0 where
  pub worn : IfErr result (λ fault. IsWornDelta fault → is_worn_behind l ≡ true)
  pub given : IfOk result (λ v. AreNext next atmost (messages v))
  pub faults : IfErr result (IsFaultIn next (next + atmost))
  pub told : t.told ≡ true → CollectsTold messages next atmost result l
