-- What is known of a link, and what each call of it does.
use Rattle.std.specs.Prelude.{◌≡◌, ◌⊎◌, ℕ, ◌+◌, ◌-◌, ◌^◌, ◌<◌, ◌≤◌, List, [], ◌∷◌, ◌++◌, length, map, drop, All, IfOk, IfSome, Option, Some, None, option_map, Result, Ok, Err, ⊤, Bool, true, false, IsUtf8}
use Rattle.std.specs.FinMap.{get}
use Rattle.fluid_io.specs.Causes.{Rose, Tells}
use Rattle.fluid_types.specs.Fits as entries
use Rattle.fluid_types.specs.Ledger.{Ledger, messages_of, order}
use Rattle.fluid_types.specs.Order.{AreNumberedFrom, AreFirst}
use Rattle.fluid_types.specs.Printed.{message_printed}
use Rattle.fluid_types.specs.declared.entries.Raw.{Raw}
use Rattle.fluid_types.specs.declared.entries.Raw.TheVariants.{Submit}
use Rattle.fluid_types.specs.declared.entries.Submission.{Submission}
use Rattle.fluid_types.specs.declared.messages.Message.{Message}
use Rattle.fluid_types.specs.declared.nacks.NackRule.TheVariants.{Full}
use Rattle.fluid_types.specs.declared.verdicts.Verdict.{Verdict}
use Rattle.fluid_types.specs.declared.verdicts.Verdict.TheVariants as verdict
use Rattle.fluid_tree.specs.declared.id.SummaryRef.{SummaryRef}
use Rattle.fluid_tree.specs.Summary.{Summary, blob, tree, handle, Children, no_children, child}
use Rattle.fluid_readback.specs.Quorums.{IsReadAsItself}
use Rattle.fluid_rules.specs.Counted.{is_full}
use Rattle.fluid_rules.specs.Rules.{IsLegal}
use Rattle.fluid_rules.specs.Scribe.{last_ack, number_of, reference_of}
use Rattle.fluid_store.specs.Held.{Held, Keeps, IsShort}
use Rattle.fluid_store.specs.Keeping.{with_all}
use Rattle.fluid_store.specs.Parts.{objects_over}
use Rattle.fluid_store.specs.Putting.{Putting, putting}
use Rattle.fluid_store.specs.Uploading.{IsEarlier, StandsResolved}
use Rattle.fluid_store.specs.declared.fault.StoreFault.{StoreFault}
use Rattle.fluid_store.specs.declared.listing.StoredObject.{StoredObject}
use Rattle.fluid_loader.specs.declared.link.Pick.{Pick}
use Rattle.fluid_loader.specs.declared.link.Pick.TheVariants.{Empty, Latest, Handle}
use Rattle.fluid_loader.specs.declared.link.Given.{Given}
use Rattle.fluid_loader.specs.declared.link.Given.TheVariants.{Taken, Nacked}
use Rattle.fluid_loader.specs.declared.link.LinkFault.{LinkFault}
use Rattle.fluid_loader.specs.declared.link.LinkFault.TheVariants.{Failed, Clash, NoMemory}

-- ---- what a link tells

-- the document's order, the objects that its store holds, and, of a link over a lane, the ledger whose order it is, and the limit on its
-- entries
pub record Document : Type 0 where
  pub order : List Message
  pub held : Held
  pub ledger : Option Ledger
  pub limit : ℕ

-- messages are numbered one by one from 1, each is read back from its printed text, which is UTF-8, as itself, and none refers to one
-- behind it
pub record IsOrder (messages : List Message) : Type 0 where
  pub numbered : AreFirst messages
  pub read_back : All IsReadAsItself messages
  pub utf8 : All (λ m. IsUtf8 (message_printed m)) messages
  pub refers_back : All (λ m. reference_of m ≤ m.number) messages

-- a legal ledger of this order
pub record IsLedgerOf (messages : List Message) (ledger : Ledger) : Type 0 where
  pub legal : IsLegal ledger
  pub its_order : order ledger ≡ messages

-- what every link that tells a document tells: an order, the ledger of it, if any, and a store of objects of less than 2^53 bytes
pub record IsDocument (d : Document) : Type 0 where
  pub in_order : IsOrder d.order
  pub of_ledger : IfSome d.ledger (IsLedgerOf d.order)
  pub short : IsShort d.held

-- its client, the moment at which it submits, the document, where it tells it, its counts of faults and of refusals, and of the trees
-- that what is held refused, where it counts them, the numbers of the messages and the ids of the objects that were fetched, the number
-- of handles of each upload, and the submissions that were taken, all of them oldest first
pub record Linked : Type 0 where
  pub client : List ℕ
  pub moment : ℕ
  pub told : Option Document
  pub faults : ℕ
  pub refusals : ℕ
  pub bad_trees : ℕ
  pub messages : List ℕ
  pub objects : List (List ℕ)
  pub handles : List ℕ
  pub taken : List Submission

-- a fact on the documents that are told before and behind a call; whether one is told never changes
abbrev pub BothTell : (Document → Document → Type 0) → Option Document → Option Document → Type 0
BothTell fact None None = Unit {0}
BothTell fact None (Some new) = ⊥
BothTell fact (Some old) None = ⊥
BothTell fact (Some old) (Some new) = fact old new

-- ---- calls that only read

-- the counts don't fall, and all else is as it was
pub record Reads (old new : Linked) : Type 0 where
  pub same : new ≡ record old { faults = new.faults }
  pub later : old.faults ≤ new.faults

-- why a call that only reads fails
abbrev pub ReadFails : Linked → Linked → LinkFault → Type 0
ReadFails old new Failed = Rose old.faults new.faults
ReadFails old new (Clash id kept bytes) = ⊥
ReadFails old new NoMemory = ⊤

-- the acknowledged summary that is picked in an order: its number is that of the last acknowledgement that has it
abbrev pub picked : Pick → List Message → Option SummaryRef
picked Empty order = None
picked Latest order = last_ack order
picked (Handle id) order = option_map (λ number. record { handle = id; number = number }) (number_of order id)

abbrev pub PickSays : Pick → Linked → Linked → Result (Option SummaryRef) LinkFault → Type 0
PickSays pick old new (Ok summary) = IfSome summary (λ s. s.number < 2 ^ 53) × Tells old.told (λ document. summary ≡ picked pick document.order)
PickSays pick old new (Err fault) = ReadFails old new fault

pub record Picks (pick : Pick) (old new : Linked) (result : Result (Option SummaryRef) LinkFault) : Type 0 where
  pub reads : Reads old new
  pub says : PickSays pick old new result

-- an object is fetched where the call answers
abbrev pub GetSays : List ℕ → Linked → Linked → Result (Option (List ℕ)) LinkFault → Type 0
GetSays id old new (Ok found) =
    (new ≡ record old { faults = new.faults; objects = old.objects ++ id ∷ [] }) × Tells old.told (λ document. found ≡ get document.held id)
GetSays id old new (Err fault) = (new ≡ record old { faults = new.faults }) × ReadFails old new fault

pub record Gets (id : List ℕ) (old new : Linked) (result : Result (Option (List ℕ)) LinkFault) : Type 0 where
  pub later : old.faults ≤ new.faults
  pub says : GetSays id old new result

-- ---- messages

-- over every link messages are numbered one by one, up to 2^53 - 1 at most; a told one gives all from the number on
abbrev pub FetchSays : ℕ → Linked → Linked → Result (List Message) LinkFault → Type 0
FetchSays from old new (Ok ms) =
    (new ≡ record old { faults = new.faults; messages = old.messages ++ map (λ m. m.number) ms })
    × (AreNumberedFrom from ms × ((from + length ms ≤ 2 ^ 53) × Tells old.told (λ document. drop (from - 1) document.order ≡ ms)))
FetchSays from old new (Err fault) = (new ≡ record old { faults = new.faults }) × ReadFails old new fault

pub record Fetches (from : ℕ) (old new : Linked) (result : Result (List Message) LinkFault) : Type 0 where
  pub later : old.faults ≤ new.faults
  pub says : FetchSays from old new result

-- ---- calls that change the document

-- what every such call leaves
pub record Changes (old new : Linked) : Type 0 where
  pub client : new.client ≡ old.client
  pub moment : new.moment ≡ old.moment
  pub faults : old.faults ≤ new.faults
  pub refusals : old.refusals ≤ new.refusals
  pub messages : new.messages ≡ old.messages
  pub objects : new.objects ≡ old.objects

-- ---- a submission

-- the entry of a submission fits, whatever its moment
pub record Fits (client : List ℕ) (submission : Submission) : Type 0 where
  pub number : submission.client_number < 2 ^ 53
  pub entry : (moment : ℕ) → moment < 2 ^ 53 → entries.Fits (Submit client submission moment)

-- a submission as an entry, of the link's client at the link's moment
abbrev pub entry_of : Linked → Submission → Raw
entry_of linked submission = Submit linked.client submission linked.moment

-- a document with one entry more: in its ledger, where that is told, and in its order
abbrev pub with_entry : Raw → Verdict → Document → Document
with_entry raw said d = record d { order = d.order ++ messages_of said; ledger = option_map (λ ledger. ledger ++ (raw, said) ∷ []) d.ledger }

-- the answer to a verdict
abbrev pub given : Verdict → Given
given (verdict.Sequenced message) = Taken
given (verdict.Nacked nack) = Nacked nack
given verdict.Dropped = Taken
given verdict.Absorbed = Taken

-- the answer of a document that is full
abbrev pub IsFull : Given → Type 0
IsFull Taken = ⊥
IsFull (Nacked nack) = nack.rule ≡ Full

-- whether the document is full for the entry, where its ledger is told
abbrev pub IsFullFor : Bool → Raw → Document → Type 0
IsFullFor full raw d = IfSome d.ledger (λ ledger. is_full d.limit ledger raw ≡ full)

-- the entry was added with a verdict, to which this is the answer; or the document is full for it, and nothing was added
abbrev pub Enters : Raw → Given → Document → Document → Type 0
Enters raw answer old new =
    (IsFullFor false raw old × ((said : Verdict) × ((answer ≡ given said) × (new ≡ with_entry raw said old)))) ⊎ (IsFullFor true raw old × (IsFull answer × (new ≡ old)))

-- it was added, with whatever verdict, or it wasn't
abbrev pub MayEnter : Raw → Document → Document → Type 0
MayEnter raw old new = (new ≡ old) ⊎ ((said : Verdict) × (new ≡ with_entry raw said old))

-- the submission was perhaps taken
pub record MaySubmit (submission : Submission) (old new : Linked) : Type 0 where
  pub document : BothTell (MayEnter (entry_of old submission)) old.told new.told
  pub taken : (new.taken ≡ old.taken) ⊎ (new.taken ≡ old.taken ++ submission ∷ [])

-- a submission is taken, or refused, which is counted; or the link fails
abbrev pub SubmitSays : Submission → Linked → Linked → Result Given LinkFault → Type 0
SubmitSays submission old new (Ok Taken) = (new.taken ≡ old.taken ++ submission ∷ []) × BothTell (Enters (entry_of old submission) Taken) old.told new.told
SubmitSays submission old new (Ok (Nacked nack)) =
    (new.taken ≡ old.taken) × (Rose old.refusals new.refusals × BothTell (Enters (entry_of old submission) (Nacked nack)) old.told new.told)
SubmitSays submission old new (Err Failed) = Rose old.faults new.faults × MaySubmit submission old new
SubmitSays submission old new (Err (Clash id kept bytes)) = ⊥
SubmitSays submission old new (Err NoMemory) = MaySubmit submission old new

pub record Submits (submission : Submission) (old new : Linked) (result : Result Given LinkFault) : Type 0 where
  pub changes : Changes old new
  pub handles : new.handles ≡ old.handles
  pub trees : new.bad_trees ≡ old.bad_trees
  pub says : SubmitSays submission old new result

-- ---- an upload

-- how many of the nodes of a tree are handles
abbrev pub one_if_handle : Summary → ℕ
one_if_handle (blob content) = 0
one_if_handle (tree nodes) = 0
one_if_handle (handle path) = 1

abbrev pub count_all : Children → ℕ
count_all no_children = 0
count_all (child name node nodes) = one_if_handle node + count_all nodes

abbrev pub count_handles : Summary → ℕ
count_handles (blob content) = 0
count_handles (tree nodes) = count_all nodes
count_handles (handle path) = 0

-- the answer to objects that were put, up to the first clash: the tree's id, or that clash
abbrev pub IsPut : List ℕ → Putting → Result (List ℕ) LinkFault → Type 0
IsPut own put (Ok id) = (id ≡ own) × (put.clash ≡ None)
IsPut own put (Err Failed) = ⊥
IsPut own put (Err (Clash id kept bytes)) = put.clash ≡ Some (record { id = id; kept = kept; bytes = bytes })
IsPut own put (Err NoMemory) = ⊥

-- the objects of the tree were put over the earlier one with this id, if there is one, and nothing else was changed
pub record PutsTree (node : Summary) (base : Option (List ℕ)) (result : Result (List ℕ) LinkFault) (old new : Document) : Type 0 where
  pub own : List ℕ
  pub objects : List StoredObject
  pub of_tree : objects_over old.held base node ≡ Ok (own, objects)
  pub answer : IsPut own (putting old.held objects) result
  pub held : new ≡ record old { held = (putting old.held objects).held }

-- some of them from the front were put, perhaps none
pub record PutsSome (node : Summary) (base : Option (List ℕ)) (old new : Document) : Type 0 where
  pub prefix : List StoredObject
  pub are_first : IfOk (objects_over old.held base node) (λ tree. (behind : List StoredObject) × (tree.1 ≡ prefix ++ behind))
  pub held : new ≡ record old { held = with_all old.held prefix }
  pub kept : Keeps old.held new.held

-- under the id stands the tree with the nodes of the earlier one in the places of its handles
abbrev pub StandsBehind : Summary → Option (List ℕ) → List ℕ → Document → Document → Type 0
StandsBehind node base id old new = (earlier : Option Summary) → IsEarlier old.held base earlier → StandsResolved new.held earlier node id

abbrev pub UploadSays : Summary → Option (List ℕ) → Linked → Linked → Result (List ℕ) LinkFault → Type 0
UploadSays node base old new (Ok id) =
    (new.handles ≡ old.handles ++ count_handles node ∷ [])
    × (BothTell (PutsTree node base (Ok id)) old.told new.told × BothTell (StandsBehind node base id) old.told new.told)
UploadSays node base old new (Err Failed) = Rose old.faults new.faults × BothTell (PutsSome node base) old.told new.told
UploadSays node base old new (Err (Clash id kept bytes)) =
    Rose old.refusals new.refusals × BothTell (PutsTree node base (Err (Clash id kept bytes))) old.told new.told
UploadSays node base old new (Err NoMemory) = BothTell (PutsSome node base) old.told new.told

-- the tree is refused by what is held, and nothing is put
pub record IsTreeRefused (node : Summary) (base : Option (List ℕ)) (old new : Document) : Type 0 where
  pub fault : StoreFault
  pub refused : objects_over old.held base node ≡ Err fault
  pub same : new ≡ old

-- no other tree is counted as one that was refused
abbrev pub CountsTrees : Summary → Option (List ℕ) → Linked → Linked → Result (List ℕ) LinkFault → Type 0
CountsTrees node base old new (Ok id) = new.bad_trees ≡ old.bad_trees
CountsTrees node base old new (Err Failed) = (new.bad_trees ≡ old.bad_trees) ⊎ BothTell (IsTreeRefused node base) old.told new.told
CountsTrees node base old new (Err (Clash id kept bytes)) = new.bad_trees ≡ old.bad_trees
CountsTrees node base old new (Err NoMemory) = new.bad_trees ≡ old.bad_trees

pub record Uploads (node : Summary) (base : Option (List ℕ)) (old new : Linked) (result : Result (List ℕ) LinkFault) : Type 0 where
  pub changes : Changes old new
  pub taken : new.taken ≡ old.taken
  pub trees : CountsTrees node base old new result
  pub says : UploadSays node base old new result
