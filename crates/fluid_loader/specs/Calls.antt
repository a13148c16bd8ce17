-- What each call of a container does.
use Rattle.std.specs.Prelude.{◌≡◌, ◌⊎◌, ℕ, ◌+◌, ◌^◌, ◌<◌, ◌≤◌, IfSome, Option, List, [], ◌∷◌, ◌++◌, drop, map, false, Some, None, Result, Ok, Err, ⊤}
use Rattle.std.specs.List.{AllByRecursion}
use Rattle.fluid_io.specs.Causes.{Rose, Tells}
use Rattle.fluid_io.specs.declared.faults.FaultNote.{FaultNote}
use Rattle.fluid_json.specs.Tree.{null}
use Rattle.fluid_types.specs.declared.entries.Offered.TheVariants.{Op, Noop, Summarize}
use Rattle.fluid_types.specs.declared.entries.Submission.{Submission}
use Rattle.fluid_types.specs.Order.{AreNumberedFrom}
use Rattle.fluid_types.specs.declared.messages.Message.{Message}
use Rattle.fluid_edits.specs.declared.edit.Edit.{Edit}
use Rattle.fluid_edits.specs.Forms.{contents_of}
use Rattle.fluid_edits.specs.Replay.{Channels, replay_edits}
use Rattle.fluid_runtime.specs.App.{all_are}
use Rattle.fluid_runtime.specs.AppTree.{tree_since}
use Rattle.fluid_runtime.specs.Refused as refused
use Rattle.fluid_store.specs.Held.{Held}
use Rattle.fluid_loader.specs.Version.{AVersion, IsOfVersion, version_at}
use Rattle.fluid_loader.specs.Container.{AContainer, empty, begun, behind}
use Rattle.fluid_loader.specs.Link as link
use Rattle.fluid_loader.specs.Link.{Document, Linked, Reads, picked}
use Rattle.fluid_loader.specs.declared.link.Given.{Given}
use Rattle.fluid_loader.specs.declared.link.Given.TheVariants.{Taken, Nacked}
use Rattle.fluid_loader.specs.Submitting.{numbered, summarize_tree}
use Rattle.fluid_tree.specs.Summary.{Summary}
use Rattle.fluid_tree.specs.declared.id.SummaryRef.{SummaryRef}
use Rattle.fluid_loader.specs.declared.link.Pick.{Pick}
use Rattle.fluid_loader.specs.declared.link.Pick.TheVariants.{Empty, Latest, Handle}
use Rattle.fluid_loader.specs.declared.link.LinkFault.{LinkFault}
use Rattle.fluid_loader.specs.declared.link.LinkFault.TheVariants.{Failed, Clash as Clashes, NoMemory as NoLinkMemory}
use Rattle.fluid_loader.specs.declared.fault.LoadFault.{LoadFault}
use Rattle.fluid_loader.specs.declared.fault.LoadFault.TheVariants.{LinkFailed, NoSummary, BadSummary, Edit as EditRefused, Refused, NoMemory, Clash}

-- the note has the counts of faults round a call in which they rose
pub record IsNoted (old new : Linked) (note : FaultNote) : Type 0 where
  pub before : old.faults ≤ note.before
  pub after : note.after ≡ new.faults
  pub rose : Rose note.before note.after

-- ---- messages

-- the messages behind the container's number, of a told link all of them
pub record Fetched (number : ℕ) (old new : Linked) (messages : List Message) : Type 0 where
  pub numbered : AreNumberedFrom (number + 1) messages
  pub told : Tells old.told (λ document. drop number document.order ≡ messages)
  pub fetched : new ≡ record old { faults = new.faults; messages = old.messages ++ map (λ m. m.number) messages }

-- why a call that only reads the link fails
abbrev pub ReadStops : Linked → Linked → LoadFault → Type 0
ReadStops old new (LinkFailed note) = IsNoted old new note
ReadStops old new NoSummary = ⊥
ReadStops old new (BadSummary path) = ⊥
ReadStops old new (EditRefused fault) = ⊥
ReadStops old new (Refused nack) = ⊥
ReadStops old new NoMemory = ⊤
ReadStops old new (Clash id kept bytes) = ⊥

-- a pump takes in all of them, or, where it fails, a prefix of them, which is none where they weren't fetched
abbrev pub PumpDoes : AContainer → AContainer → Linked → Linked → Result ℕ LoadFault → Type 0
PumpDoes old new before after (Ok number) =
    (number ≡ new.number) × ((messages : List Message) × (Fetched old.number before after messages × (new ≡ behind before.client old messages)))
PumpDoes old new before after (Err fault) =
    ReadStops before after fault
    × ((prefix : List Message) × ((new ≡ behind before.client old prefix)
    × Tells before.told (λ document. (ahead : List Message) × (drop old.number document.order ≡ prefix ++ ahead))))

-- a prefix of these messages was taken in
pub record IsBehindPrefix (client : List ℕ) (old new : AContainer) (messages : List Message) : Type 0 where
  pub prefix : List Message
  pub ahead : List Message
  pub splits : messages ≡ prefix ++ ahead
  pub taken : new ≡ behind client old prefix

-- the link is as it was but for its count of faults and the numbers of the messages that were fetched
pub record PumpReads (old new : Linked) : Type 0 where
  pub same : new ≡ record old { faults = new.faults; messages = new.messages }
  pub later : old.faults ≤ new.faults

-- ---- submissions

-- the fault of a call on a link that failed, with the counts of faults round it
abbrev pub failure : ℕ → ℕ → LinkFault → LoadFault
failure before after Failed = LinkFailed (record { before = before; after = after })
failure before after (Clashes id kept bytes) = Clash id kept bytes
failure before after NoLinkMemory = NoMemory

-- what a submission answers: done where it was taken, the nack where it was refused, or the link's fault
abbrev pub or_refused : ℕ → ℕ → Result Given LinkFault → Result (Unit {0}) LoadFault
or_refused before after (Ok Taken) = Ok tt
or_refused before after (Ok (Nacked nack)) = Err (Refused nack)
or_refused before after (Err fault) = Err (failure before after fault)

-- it was submitted over the link, and this is answered
pub record Submits (submission : Submission) (old new : Linked) (result : Result (Unit {0}) LoadFault) : Type 0 where
  pub given : Result Given LinkFault
  pub submitted : link.Submits submission old new given
  pub answer : result ≡ or_refused old.faults new.faults given

-- a submission with the next client number, at the container's number: the op of an edit, a noop, and a summarize
abbrev pub op_of : AContainer → Edit → Submission
op_of c edit = numbered (c.last + 1) c.number Op (contents_of edit)

abbrev pub noop_of : AContainer → Submission
noop_of c = numbered (c.last + 1) c.number Noop null

abbrev pub summarize_of : AContainer → List ℕ → Submission
summarize_of c id = numbered (c.last + 1) c.number Summarize (summarize_tree id c.head c.number)

-- one more submission
abbrev pub counted : AContainer → AContainer
counted c = record c { last = c.last + 1 }

-- a client number counts as used where the submission wasn't refused
abbrev pub counted_by : AContainer → Result (Unit {0}) LoadFault → AContainer
counted_by c (Err (Refused nack)) = c
counted_by c result = counted c

-- nothing has changed
pub record IsUndone (old new : AContainer) (before after : Linked) : Type 0 where
  pub container : new ≡ old
  pub link : after ≡ before

-- ---- edits

-- what the client shows
abbrev pub shown_channels : AContainer → Channels
shown_channels c = replay_edits c.channels c.pending

-- the edit laid over, and one more submission counted
abbrev pub with_edit : AContainer → Edit → AContainer
with_edit c edit = record c { pending = c.pending ++ edit ∷ []; last = c.last + 1 }

-- a refused one is taken back
abbrev pub edited_by : AContainer → Edit → Result (Unit {0}) LoadFault → AContainer
edited_by c edit (Err (Refused nack)) = c
edited_by c edit result = with_edit c edit

-- an edit that what is shown allows, whose op was submitted
pub record Edits (old new : AContainer) (edit : Edit) (before after : Linked) (result : Result (Unit {0}) LoadFault) : Type 0 where
  pub allowed : refused.answer (shown_channels old) edit ≡ Ok (contents_of edit)
  pub submits : Submits (op_of old edit) before after result
  pub leaves : new ≡ edited_by old edit result

-- it is refused by what is shown, or finds no memory, and nothing has changed; or its op was submitted
abbrev pub EditDoes : AContainer → AContainer → Edit → Linked → Linked → Result (Unit {0}) LoadFault → Type 0
EditDoes old new edit before after (Err (EditRefused fault)) = (refused.answer (shown_channels old) edit ≡ Err fault) × IsUndone old new before after
EditDoes old new edit before after (Err NoMemory) = IsUndone old new before after ⊎ Edits old new edit before after (Err NoMemory)
EditDoes old new edit before after result = Edits old new edit before after result

-- ---- summaries

-- from now on the tree with this id is the last one
abbrev pub since : AContainer → List ℕ → AContainer
since c id = record c { changed = all_are false c.channels; base = Some id }

-- what an upload answers: the id, or the link's fault
abbrev pub or_failed : ℕ → ℕ → Result (List ℕ) LinkFault → Result (List ℕ) LoadFault
or_failed before after (Ok id) = Ok id
or_failed before after (Err fault) = Err (failure before after fault)

-- a tree was put over an earlier one, or wasn't, and this is answered
pub record UploadsOver (node : Summary) (base : Option (List ℕ)) (old new : Linked) (result : Result (List ℕ) LoadFault) : Type 0 where
  pub put : Result (List ℕ) LinkFault
  pub uploads : link.Uploads node base old new put
  pub answer : result ≡ or_failed old.faults new.faults put

-- the tree that tells what has changed since the last one, over that
abbrev pub UploadsTree : AContainer → Linked → Linked → Result (List ℕ) LoadFault → Type 0
UploadsTree c old new result = UploadsOver (tree_since c.changed c.channels) c.base old new result

-- it finds no memory, and nothing was put; or it was put
abbrev pub UploadEnds : AContainer → Linked → Linked → Result (List ℕ) LoadFault → Type 0
UploadEnds c old new (Err NoMemory) = (new ≡ old) ⊎ UploadsTree c old new (Err NoMemory)
UploadEnds c old new result = UploadsTree c old new result

-- a summarize that answers this id: its tree was put under it, and then its submission taken
pub record Summarized (old new : AContainer) (before after : Linked) (id : List ℕ) : Type 0 where
  pub between : Linked
  pub uploaded : UploadsTree old before between (Ok id)
  pub submitted : Submits (summarize_of old id) between after (Ok tt)
  pub leaves : new ≡ counted (since old id)

-- its tree wasn't put, and counts as none
pub record NotPut (old new : AContainer) (before after : Linked) (fault : LoadFault) : Type 0 where
  pub failed : UploadsTree old before after (Err fault)
  pub leaves : new ≡ old

-- a submission was made
pub record IsProposed (old new : AContainer) (submission : Submission) (before after : Linked) (result : Result (Unit {0}) LoadFault) : Type 0 where
  pub submits : Submits submission before after result
  pub leaves : new ≡ counted_by old result

-- asking for a tree to be acknowledged finds no memory, and nothing has changed; or it is submitted
abbrev pub Proposes : AContainer → AContainer → Submission → Linked → Linked → Result (Unit {0}) LoadFault → Type 0
Proposes old new submission before after (Err NoMemory) = IsUndone old new before after ⊎ IsProposed old new submission before after (Err NoMemory)
Proposes old new submission before after result = IsProposed old new submission before after result

-- its tree was put, and then its submission wasn't taken, or found no memory before it was submitted
pub record PutAlone (old new : AContainer) (before after : Linked) (fault : LoadFault) : Type 0 where
  pub id : List ℕ
  pub between : Linked
  pub uploaded : UploadsTree old before between (Ok id)
  pub ends : Proposes (since old id) new (summarize_of old id) between after (Err fault)

abbrev pub SummarizeDoes : AContainer → AContainer → Linked → Linked → Result (List ℕ) LoadFault → Type 0
SummarizeDoes old new before after (Ok id) = Summarized old new before after id
SummarizeDoes old new before after (Err fault) =
    ((fault ≡ NoMemory) × IsUndone old new before after) ⊎ (NotPut old new before after fault ⊎ PutAlone old new before after fault)

-- ---- loading

abbrev pub PickedSays : Pick → Linked → Linked → Result (Option SummaryRef) LoadFault → Type 0
PickedSays pick old new (Ok summary) = IfSome summary (λ s. s.number < 2 ^ 53) × Tells old.told (λ document. summary ≡ picked pick document.order)
PickedSays pick old new (Err fault) = ReadStops old new fault

pub record Picked (pick : Pick) (old new : Linked) (result : Result (Option SummaryRef) LoadFault) : Type 0 where
  pub reads : Reads old new
  pub says : PickedSays pick old new result

-- the link is as it was but for its count of faults and the ids of the objects that were fetched
pub record LoadReads (old new : Linked) : Type 0 where
  pub same : new ≡ record old { faults = new.faults; objects = new.objects }
  pub later : old.faults ≤ new.faults

-- the objects that were fetched are such, where the link tells what is held
pub record FetchesIn (inside : Document → List ℕ → Type 0) (old new : Linked) : Type 0 where
  pub ids : List (List ℕ)
  pub fetched : new.objects ≡ old.objects ++ ids
  pub are : Tells old.told (λ document. AllByRecursion (inside document) ids)

-- what a call that reads objects answers of what is held, where the link tells it
abbrev pub Sees : {A : Type 0} → (Held → Result A (List ℕ)) → Linked → Linked → Result A LoadFault → Type 0
Sees answer old new (Ok a) = Tells old.told (λ document. Ok a ≡ answer document.held)
Sees answer old new (Err (BadSummary path)) = Tells old.told (λ document. Err path ≡ answer document.held)
Sees answer old new (Err (LinkFailed note)) = IsNoted old new note
Sees answer old new (Err NoSummary) = ⊥
Sees answer old new (Err (EditRefused fault)) = ⊥
Sees answer old new (Err (Refused nack)) = ⊥
Sees answer old new (Err NoMemory) = ⊤
Sees answer old new (Err (Clash id kept bytes)) = ⊥

-- a pure answer: the path of a fault is one of a summary
abbrev pub IsAnswer : {A : Type 0} → Result A LoadFault → Result A (List ℕ) → Type 0
IsAnswer (Ok a) answer = answer ≡ Ok a
IsAnswer (Err (BadSummary path)) answer = answer ≡ Err path
IsAnswer (Err NoMemory) answer = ⊤
IsAnswer (Err fault) answer = ⊥

-- the same of a fault
abbrev pub IsFault : {A : Type 0} → LoadFault → Result A (List ℕ) → Type 0
IsFault (BadSummary path) answer = answer ≡ Err path
IsFault NoMemory answer = ⊤
IsFault fault answer = ⊥

-- the container of a version, with this number
abbrev pub begun_of : ℕ → Result AVersion (List ℕ) → Result AContainer (List ℕ)
begun_of number (Ok v) = Ok (begun v.channels v.quorum number v.base)
begun_of number (Err path) = Err path

-- the fault of a version that can't be read: its path
abbrev pub or_bad : Result AContainer (List ℕ) → Result AContainer LoadFault
or_bad (Ok c) = Ok c
or_bad (Err path) = Err (BadSummary path)

-- the container of the version of the summary that was picked, before the messages behind it
abbrev pub begun_picked : Held → Option SummaryRef → Result AContainer LoadFault
begun_picked held None = Err NoSummary
begun_picked held (Some summary) = or_bad (begun_of summary.number (version_at held summary))

-- where a container begins in a document: with nothing, or with the version of the picked summary
abbrev pub begun_in : Pick → Document → Result AContainer LoadFault
begun_in Empty document = Ok empty
begun_in Latest document = begun_picked document.held (picked Latest document.order)
begun_in (Handle id) document = begun_picked document.held (picked (Handle id) document.order)

-- a call answers this of the document, where the link tells it. A fault of the link is noted, and memory may be wanting at any place
abbrev pub Answers : {A : Type 0} → (Document → Result A LoadFault) → Linked → Linked → Result A LoadFault → Type 0
Answers answer old new (Ok a) = Tells old.told (λ document. answer document ≡ Ok a)
Answers answer old new (Err NoSummary) = Tells old.told (λ document. answer document ≡ Err NoSummary)
Answers answer old new (Err (BadSummary path)) = Tells old.told (λ document. answer document ≡ Err (BadSummary path))
Answers answer old new (Err (LinkFailed note)) = IsNoted old new note
Answers answer old new (Err (EditRefused fault)) = ⊥
Answers answer old new (Err (Refused nack)) = ⊥
Answers answer old new (Err NoMemory) = ⊤
Answers answer old new (Err (Clash id kept bytes)) = ⊥

-- the link is as it was but for its count of faults and what was fetched
pub record LoadsOnly (old new : Linked) : Type 0 where
  pub same : new ≡ record old { faults = new.faults; objects = new.objects; messages = new.messages }
  pub later : old.faults ≤ new.faults

-- a container was loaded: it began so, and took in all messages behind that, each of which was fetched once; no object was fetched but
-- those of the version
pub record Loaded (pick : Pick) (old new : Linked) (c : AContainer) : Type 0 where
  pub first : AContainer
  pub messages : List Message
  pub begins : Tells old.told (λ document. begun_in pick document ≡ Ok first)
  pub numbered : AreNumberedFrom (first.number + 1) messages
  pub all : Tells old.told (λ document. drop first.number document.order ≡ messages)
  pub taken : c ≡ behind old.client first messages
  pub fetched : new.messages ≡ old.messages ++ map (λ m. m.number) messages
  pub objects : FetchesIn (λ document. IsOfVersion document.held (picked pick document.order)) old new

abbrev pub LoadDoes : Pick → Linked → Linked → Result AContainer LoadFault → Type 0
LoadDoes pick old new (Ok c) = Loaded pick old new c
LoadDoes pick old new (Err fault) = Answers (begun_in pick) old new (Err fault)

-- a container begins with the version of a summary
pub record Begins (summary : SummaryRef) (old new : Linked) (result : Result AContainer LoadFault) : Type 0 where
  pub reads : LoadReads old new
  pub sees : Sees (λ held. begun_of summary.number (version_at held summary)) old new result
