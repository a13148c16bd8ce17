-- What a call of a link does to the document that is told, by what it answers.
use Rattle.std.specs.Prelude.{◌≡◌, ◌⊎◌, ℕ, ◌+◌, ◌-◌, ◌^◌, ◌≤◌, true, false, if◌then◌else◌, nat_le, List, [], ◌∷◌, ◌++◌, drop, length, find, reverse, bytes_eq, Option, Some, None, option_map, Result, Ok, Err}
use Rattle.std.specs.List.{last_or}
use Rattle.std.specs.FinMap.{get}
use Rattle.fluid_io.specs.Causes.{Rose, Tells}
use Rattle.fluid_types.specs.Forms.{largest}
use Rattle.fluid_types.specs.Order.{AreNumberedFrom}
use Rattle.fluid_types.specs.declared.entries.Raw.{Raw}
use Rattle.fluid_types.specs.declared.entries.Raw.TheVariants.{Submit}
use Rattle.fluid_types.specs.declared.entries.Submission.{Submission}
use Rattle.fluid_types.specs.declared.messages.Message.{Message}
use Rattle.fluid_types.specs.declared.verdicts.Verdict.{Verdict}
use Rattle.fluid_tree.specs.Summary.{Summary}
use Rattle.fluid_tree.specs.declared.id.SummaryRef.{SummaryRef}
use Rattle.fluid_lane.specs.declared.fault.LaneFault.{LaneFault}
use Rattle.fluid_lane.specs.declared.fault.LaneFault.TheVariants as lane
use Rattle.fluid_loader.specs.Link.{Document, BothTell, IsFullFor, with_entry, given, IsTreeRefused, PutsTree, PutsSome, StandsBehind}
use Rattle.fluid_loader.specs.declared.link.Given.{Given}
use Rattle.fluid_loader.specs.declared.link.Given.TheVariants.{Taken, Nacked}
use Rattle.fluid_loader.specs.declared.link.Pick.{Pick}
use Rattle.fluid_loader.specs.declared.link.Pick.TheVariants.{Empty, Latest, Handle}
use Rattle.fluid_loader.specs.declared.link.LinkFault.{LinkFault}
use Rattle.fluid_loader.specs.declared.link.LinkFault.TheVariants.{Failed, Clash, NoMemory}

-- a submission
abbrev pub IsSubmission : Raw → Type 0
IsSubmission (Submit id submission moment) = Unit {0}
IsSubmission raw = ⊥

-- the document is full for the entry, or it isn't, and the entry was added with this verdict
pub record Adds (raw : Raw) (said : Verdict) (old new : Document) : Type 0 where
  pub room : IsFullFor false raw old
  pub added : new ≡ with_entry raw said old

pub record IsFullWith (raw : Raw) (old new : Document) : Type 0 where
  pub full : IsFullFor true raw old
  pub same : new ≡ old

-- an entry: its verdict, or none where the document is full for it
abbrev pub EntersBy : Raw → Option Document → Option Document → Result (Option Verdict) LinkFault → Type 0
EntersBy raw old new (Ok (Some said)) = BothTell (Adds raw said) old new
EntersBy raw old new (Ok None) = BothTell (IsFullWith raw) old new
EntersBy raw old new (Err Failed) = new ≡ old
EntersBy raw old new (Err (Clash id kept bytes)) = ⊥
EntersBy raw old new (Err NoMemory) = new ≡ old

-- what is answered to a fault of a lane
abbrev pub answer_of_lane : LaneFault → Result (Option Verdict) LinkFault
answer_of_lane (lane.Full entries) = Ok None
answer_of_lane lane.NoMemory = Err NoMemory
answer_of_lane other = Err Failed

-- the messages from a number on
pub record AreFrom (from : ℕ) (told : Option Document) (messages : List Message) : Type 0 where
  pub numbered : AreNumberedFrom from messages
  pub few : from + length messages ≤ 2 ^ 53
  pub are : Tells told (λ document. drop (from - 1) document.order ≡ messages)

abbrev pub ReadsBy : ℕ → Option Document → Option Document → Result (List Message) LinkFault → Type 0
ReadsBy from old new (Ok messages) = (new ≡ old) × AreFrom from old messages
ReadsBy from old new (Err Failed) = new ≡ old
ReadsBy from old new (Err (Clash id kept bytes)) = ⊥
ReadsBy from old new (Err NoMemory) = new ≡ old

-- the bytes under an id
abbrev pub GetsBy : (id : List ℕ) → Option Document → Option Document → Result (Option (List ℕ)) LinkFault → Type 0
GetsBy id old new (Ok found) = (new ≡ old) × Tells old (λ document. found ≡ get document.held id)
GetsBy id old new (Err Failed) = new ≡ old
GetsBy id old new (Err (Clash other kept bytes)) = ⊥
GetsBy id old new (Err NoMemory) = new ≡ old

-- the objects of a tree
pub record PutsAll (node : Summary) (base : Option (List ℕ)) (id : List ℕ) (old new : Document) : Type 0 where
  pub tree : PutsTree node base (Ok id) old new
  pub stands : StandsBehind node base id old new
  pub some : PutsSome node base old new

abbrev pub UploadsBy : Summary → Option (List ℕ) → Option Document → Option Document → Result (List ℕ) LinkFault → Type 0
UploadsBy node base old new (Ok id) = BothTell (PutsAll node base id) old new
UploadsBy node base old new (Err Failed) = BothTell (PutsSome node base) old new
UploadsBy node base old new (Err (Clash id kept bytes)) = BothTell (PutsTree node base (Err (Clash id kept bytes))) old new
UploadsBy node base old new (Err NoMemory) = BothTell (PutsSome node base) old new

-- no other tree is counted than one that is refused by what is held
abbrev pub TreesBy : Summary → Option (List ℕ) → Option Document → Option Document → (trees now : ℕ) → Result (List ℕ) LinkFault → Type 0
TreesBy node base old new trees now (Ok id) = now ≡ trees
TreesBy node base old new trees now (Err Failed) = (now ≡ trees) ⊎ BothTell (IsTreeRefused node base) old new
TreesBy node base old new trees now (Err (Clash id kept bytes)) = now ≡ trees
TreesBy node base old new trees now (Err NoMemory) = now ≡ trees

-- ---- acknowledged summaries

-- the one that is picked among acknowledged summaries, oldest first
abbrev pub picked_among : Pick → List SummaryRef → Option SummaryRef
picked_among Empty acks = None
picked_among Latest acks = last_or None acks
picked_among (Handle id) acks =
    option_map (λ number. record { handle = id; number = number }) (option_map (λ ack. ack.number) (find (λ ack. bytes_eq ack.handle id) (reverse acks)))

-- it, where its number is one that a message may have
abbrev pub few_only : Option SummaryRef → Option SummaryRef
few_only None = None
few_only (Some ack) = if nat_le ack.number largest then Some ack else None

-- ---- answers

abbrev pub submission_in : Raw → List Submission
submission_in (Submit id submission moment) = submission ∷ []
submission_in raw = []

-- a submission that was taken is kept, or memory was wanting
abbrev pub Takes : Raw → List Submission → List Submission → Result Given LinkFault → Type 0
Takes raw old new (Ok Taken) = new ≡ old ++ submission_in raw
Takes raw old new (Ok (Nacked nack)) = ⊥
Takes raw old new (Err Failed) = ⊥
Takes raw old new (Err (Clash id kept bytes)) = ⊥
Takes raw old new (Err NoMemory) = new ≡ old

-- the answer to a verdict: a nack is counted, and what was taken is kept
abbrev pub Answers : Raw → Verdict → (refusals now : ℕ) → List Submission → List Submission → Result Given LinkFault → Type 0
Answers raw said refusals now old new (Ok Taken) = (given said ≡ Taken) × ((now ≡ refusals) × (new ≡ old ++ submission_in raw))
Answers raw said refusals now old new (Ok (Nacked nack)) = (given said ≡ Nacked nack) × (Rose refusals now × ((refusals ≤ now) × (new ≡ old)))
Answers raw said refusals now old new (Err Failed) = ⊥
Answers raw said refusals now old new (Err (Clash id kept bytes)) = ⊥
Answers raw said refusals now old new (Err NoMemory) = (now ≡ refusals) × (new ≡ old)

-- a fault is counted, and a clash as a refusal
abbrev pub IsCounted : LinkFault → (faults faults_now refusals refusals_now : ℕ) → Type 0
IsCounted Failed faults faults_now refusals refusals_now = Rose faults faults_now × ((faults ≤ faults_now) × (refusals_now ≡ refusals))
IsCounted (Clash id kept bytes) faults faults_now refusals refusals_now = Rose refusals refusals_now × ((refusals ≤ refusals_now) × (faults_now ≡ faults))
IsCounted NoMemory faults faults_now refusals refusals_now = (faults_now ≡ faults) × (refusals_now ≡ refusals)
