-- Records that are taken up one by one, over a keeper into which messages may be put to make room.
use Rattle.std.specs.Prelude.{◌≡◌, ◌⊎◌, ⊤, false, ℕ, ◌+◌, ◌≤◌, List, [], ◌++◌, length, take, drop, All, Some, Result, Ok, Err}
use Rattle.fluid_io.specs.Causes.{Tells}
use Rattle.fluid_types.specs.Ledger.{Ledger, order, seq, messages_of}
use Rattle.fluid_types.specs.declared.entries.Raw.{Raw}
use Rattle.fluid_types.specs.declared.messages.Message.{Message}
use Rattle.fluid_log.specs.Keeping.{Content, Keeping}
use Rattle.fluid_log.specs.Calls.{KeepsSame}
use Rattle.fluid_types.specs.Order.{AreFirst}
use Rattle.fluid_checkpoint.specs.declared.state.State.{State as Checkpoint}
use Rattle.fluid_checkpoint.specs.declared.state.Form.{Form}
use Rattle.fluid_checkpoint.specs.declared.state.Form.TheVariants.{One, Two}
use Rattle.fluid_deltas.specs.Pushed.{Pushed, pushed, IsKeepable, ArePartOf, AreDeltasOf, StandIn, StandFor}
use Rattle.fluid_core.specs.Entering.{verdict_in}
use Rattle.fluid_types.specs.Forms.{largest}
use Rattle.fluid_document.specs.Entries.{InMemory, entries_of, taken_up}
use Rattle.fluid_document.specs.Kept.{IsKept}
use Rattle.fluid_document.specs.Loading.{IsRecord, DecodesAs, entries_in}
use Rattle.fluid_document.specs.declared.fault.LoadFault.{LoadFault}
use Rattle.fluid_document.specs.declared.fault.LoadFault.TheVariants.{LogFailed, DeltaFailed, NoMemory}
use Rattle.fluid_document.specs.declared.fault.EnterFault.{EnterFault}
use Rattle.fluid_document.specs.declared.fault.EnterFault.TheVariants as entering

-- the deltas are of the order still, and where nothing failed the messages in memory are of it too
abbrev pub TakenIn : {A : Type 0} → Result A LoadFault → Pushed → List Message → Content → Type 0
TakenIn (Ok done) d order content = StandIn d order content
TakenIn (Err fault) d order content = AreDeltasOf order content.deltas

-- the order has the message of this verdict, where there is one, behind as many as were pushed
abbrev pub IsNext : List Message → (count : ℕ) → List Message → Type 0
IsNext order count messages = (rest : List Message) × (drop count order ≡ messages ++ rest)

-- the entry was taken up, or the keeper's deltas are of the order still
abbrev pub StandOn : {A : Type 0} → Keeping → Keeping → InMemory → InMemory → Raw → Result A LoadFault → Type 0
StandOn old new before now raw result =
    (order : List Message) → IsNext order (pushed before.messages) (messages_of (verdict_in before.entries.state raw))
    → Tells old.content (StandIn before.messages order) → Tells new.content (TakenIn result now.messages order)

-- the record in this place was taken up, whether the keeper tells its content or not
pub record IsTaken (place : ℕ) (old new : Keeping) (before now : InMemory) : Type 0 where
  pub raw : Raw
  pub entries : now.entries ≡ taken_up before.entries raw
  pub count : pushed now.messages ≡ pushed before.messages + length (messages_of (verdict_in before.entries.state raw))
  pub is : Tells old.content (λ c. IsRecord c place (Some raw))
  pub stands : StandOn {A = Unit {0}} old new before now raw (Ok tt)

-- it decodes, but it wasn't taken up
pub record IsLeft (place : ℕ) (old new : Keeping) (before now : InMemory) (fault : LoadFault) : Type 0 where
  pub raw : Raw
  pub is : Tells old.content (λ c. IsRecord c place (Some raw))
  pub stands : StandOn {A = Unit {0}} old new before now raw (Err fault)

-- it was taken up; or the keeper is as it was; or room was made for it in part
abbrev pub TakesNext : (place : ℕ) (old new : Keeping) (before now : InMemory) → Result (Unit {0}) LoadFault → Type 0
TakesNext place old new before now (Ok done) = IsTaken place old new before now
TakesNext place old new before now (Err fault) = Tells old.content (λ c. DecodesAs c place (Err fault)) × (KeepsSame old new ⊎ IsLeft place old new before now fault)

-- what is in memory of a state that was read: its messages are all among the deltas
pub record IsResumed (s : Checkpoint) (m : InMemory) : Type 0 where
  pub entries : m.entries ≡ entries_in s
  pub before : m.messages.before ≡ s.sequencer.sequence
  pub held : m.messages.held ≡ []
  pub part : (order : List Message) → s.sequencer.sequence ≤ length order → AreFirst order → All IsKeepable order → ArePartOf m.messages order

-- what a text says is in range
abbrev pub IsInRange : Form → Type 0
IsInRange (Two s) = (s.entered ≤ largest) × (s.counted ≤ largest)
IsInRange (One entered) = ⊤

-- so many entries of a ledger are taken up, for which the keeper is kept
pub record StandsAt (l : Ledger) (m : InMemory) (place : ℕ) (content : Content) : Type 0 where
  pub kept : IsKept false l content
  pub stand : StandIn m.messages (order l) content
  pub entries : m.entries ≡ entries_of (take place l)
  pub count : pushed m.messages ≡ seq (take place l)

-- a fault that isn't one of what is kept
abbrev pub IsOutside : LoadFault → Type 0
IsOutside (LogFailed note) = ⊤
IsOutside (DeltaFailed note) = ⊤
IsOutside NoMemory = ⊤
IsOutside other = ⊥

abbrev pub unread : EnterFault → LoadFault
unread (entering.LogFailed note) = LogFailed note
unread (entering.DeltaFailed note) = DeltaFailed note
unread entering.NoMemory = NoMemory

-- what was read of a keeper that is kept for a ledger is what it says, and the keeper is kept for it still
abbrev pub ReadsKept : {A : Type 0} → (A → InMemory) → Ledger → Result A LoadFault → Content → Type 0
ReadsKept view l (Ok a) content = IsKept false l content × StandFor (view a).messages (order l) content
ReadsKept view l (Err fault) content = IsKept false l content
