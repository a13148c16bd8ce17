-- What the container that is held and the one that a world has do alike.
use Rattle.std.specs.Prelude.{◌≡◌, ◌≤◌, ◌+◌, ℕ, pos, List, [], ◌∷◌, ◌++◌, All, drop, length, false, Some, None, Result, Ok, Err, ⊤}
use Rattle.fluid_json.specs.Printed.{printed}
use Rattle.fluid_types.specs.Ledger.{Ledger, order, seq}
use Rattle.fluid_types.specs.Names.{entry_name}
use Rattle.fluid_types.specs.declared.messages.Message.{Message}
use Rattle.fluid_types.specs.declared.entries.Raw.TheVariants.{Submit}
use Rattle.fluid_types.specs.declared.entries.Submission.{Submission}
use Rattle.fluid_types.specs.declared.verdicts.Verdict.{Verdict}
use Rattle.fluid_types.specs.declared.verdicts.Verdict.TheVariants.{Sequenced, Nacked, Dropped, Absorbed}
use Rattle.fluid_rules.specs.Rules.{IsLegal, verdict}
use Rattle.fluid_rules.specs.declared.limits.Limits.{Limits}
use Rattle.fluid_codec.specs.Laws.{IsNested}
use Rattle.fluid_readback.specs.Laws.{longest_text}
use Rattle.fluid_edits.specs.declared.edit.Edit.{Edit}
use Rattle.fluid_edits.specs.Forms.{contents_of}
use Rattle.fluid_runtime.specs.AppTree.{app_tree, tree_since}
use Rattle.fluid_steps.specs.Ops.{op_spelled}
use Rattle.fluid_store.specs.Held.{Held}
use Rattle.fluid_store.specs.Laws.{IsLeftOut}
use Rattle.fluid_store.specs.Listed.{objects}
use Rattle.fluid_store.specs.Parts.{objects_over}
use Rattle.fluid_store.specs.Putting.{putting}
use Rattle.fluid_store.specs.declared.fault.StoreFault.{StoreFault}
use Rattle.fluid_store.specs.declared.listing.StoredObject.{StoredObject}
use Rattle.fluid_loader.specs.Calls.{begun_in, counted}
use Rattle.fluid_loader.specs.Container.{AContainer, behind}
use Rattle.fluid_loader.specs.Fitting.{most_contents}
use Rattle.fluid_loader.specs.Laws.{IsBased}
use Rattle.fluid_loader.specs.Link as link
use Rattle.fluid_loader.specs.declared.fault.LoadFault.{LoadFault}
use Rattle.fluid_loader.specs.declared.fault.LoadFault.TheVariants.{NoSummary, BadSummary}
use Rattle.fluid_loader.specs.declared.link.Pick.{Pick}
use Rattle.fluid_transcript.specs.World.{Document, Container, World, ledger_of, with_entries}
use Rattle.fluid_transcript.specs.Containers.{app_id, caught_up, Loading, loaded, no_summary, bad_summary, loading, join_for, joining, join_refusal}
use Rattle.fluid_transcript.specs.Transcript.{taken}
use Rattle.fluid_holding.specs.Holding.{HoldsOwn, IsContainerOf, is_made_by}

-- where it stands in its document: its client's join was entered, and it was loaded from a number up to its own, which the order has
pub record Stands (l : Ledger) (k : Container) : Type 0 where
  pub entries : k.entries ≤ length l
  pub base : k.base ≤ k.number
  pub number : k.number ≤ seq l

-- it takes in the messages behind its number, and catches up
abbrev pub TakesInAsDefined : Type 0
TakesInAsDefined =
    (l : Ledger) (own : List ℕ) (c : AContainer) (k : Container) → IsLegal l → Stands l k → IsContainerOf l own c k
    → IsContainerOf l own (behind own c (drop k.number (order l))) (caught_up l k)

-- entries that its client didn't make leave it
abbrev pub OthersLeave : Type 0
OthersLeave =
    (l more : Ledger) (own : List ℕ) (c : AContainer) (k : Container) → Stands l k
    → All (λ entry. is_made_by own entry.0 ≡ false) more → IsContainerOf l own c k → IsContainerOf (l ++ more) own c k

-- its next submission, at its number: it is taken, and counted, or it is nacked, and isn't; it is never one that came before
abbrev pub SubmittedAs : Ledger → (own : List ℕ) → AContainer → Container → Verdict → Type 0
SubmittedAs l own c k (Sequenced message) = IsContainerOf l own (counted c) k
SubmittedAs l own c k (Nacked nack) = IsContainerOf l own c k
SubmittedAs l own c k Dropped = ⊥
SubmittedAs l own c k Absorbed = IsContainerOf l own (counted c) k

abbrev pub SubmitsAsDefined : Type 0
SubmitsAsDefined =
    (l : Ledger) (own : List ℕ) (c : AContainer) (k : Container) (s : Submission) (moment : ℕ) (said : Verdict) → IsLegal (l ++ (Submit own s moment, said) ∷ []) → Stands l k
    → s.client_number ≡ c.last + 1 → s.reference ≡ pos c.number → IsContainerOf l own c k
    → SubmittedAs (l ++ (Submit own s moment, said) ∷ []) own c k said

-- ---- a load

-- the document behind the join of a container's client
abbrev pub joined_in : World → Document → Document
joined_in w d = with_entries (join_for w (ledger_of d) ∷ []) d

-- a container of a world was loaded: that which begins so, and takes in the messages behind its number
pub record IsLoaded (l : Ledger) (own : List ℕ) (first : AContainer) (load : Loading) : Type 0 where
  pub now : Container
  pub is : load ≡ loaded now
  pub held : IsContainerOf l own (behind own first (drop first.number (order l))) now

-- what a load in a world comes to, by how a container of this client begins
abbrev pub LoadsAs : Ledger → (own : List ℕ) → Loading → Result AContainer LoadFault → Type 0
LoadsAs l own load (Ok first) = IsLoaded l own first load
LoadsAs l own load (Err NoSummary) = load ≡ no_summary
LoadsAs l own load (Err (BadSummary path)) = load ≡ bad_summary path
LoadsAs l own load (Err fault) = ⊥

-- its client's join was sequenced, and then it is loaded from what the document tells
abbrev pub LoadsAsDefined : Type 0
LoadsAsDefined =
    (limits : Limits) (w : World) (d : Document) (name : List ℕ) (pick : Pick) (document : link.Document) (join : Message)
    → join_refusal (joining limits w (ledger_of d)) ≡ None → verdict (ledger_of d) (join_for w (ledger_of d)) ≡ Sequenced join
    → document.order ≡ order (ledger_of (joined_in w d)) → document.held ≡ w.store
    → LoadsAs (ledger_of (joined_in w d)) (entry_name (length d.raws)) (loading limits w d name pick) (begun_in pick document)

-- ---- the tree of a summary

-- what is held doesn't refuse a tree
abbrev pub IsTaken : Result (List ℕ × List StoredObject) StoreFault → Type 0
IsTaken (Ok tree) = ⊤
IsTaken (Err fault) = ⊥

-- nor that which a container uploads, where its base is held
abbrev pub BasedTreesAreTaken : Type 0
BasedTreesAreTaken = (held : Held) (c : AContainer) → IsBased held c → IsTaken (objects_over held c.base (tree_since c.changed c.channels))

-- over a store that holds each object under its own id it is the whole tree's: its id, and what is held when its objects are put
pub record IsWhole (held : Held) (c : AContainer) (own : List ℕ) (put : List StoredObject) : Type 0 where
  pub own_id : own ≡ app_id c.channels
  pub same : IsLeftOut (putting held (objects (app_tree c.channels))) (putting held put)

abbrev pub BasedTreesAreWhole : Type 0
BasedTreesAreWhole =
    (held : Held) (c : AContainer) (own : List ℕ) (put : List StoredObject) → HoldsOwn held → IsBased held c → objects_over held c.base (tree_since c.changed c.channels) ≡ Ok (own, put)
    → IsWhole held c own put

-- and a line of a script leaves it such a store
abbrev pub OwnedStaysOwned : Type 0
OwnedStaysOwned = (limits : Limits) (w : World) (line : List ℕ) → HoldsOwn w.store → HoldsOwn (taken limits w line).world.store

-- ---- the contents of an op

-- those of an edit that is read from a line are neither too deep nor too long for a record
abbrev pub OpsAreShort : Type 0
OpsAreShort = (text : List ℕ) (edit : Edit) → op_spelled text ≡ Some (Ok edit) → length text ≤ longest_text → IsNested 98 (contents_of edit) × (length (printed (contents_of edit)) ≤ most_contents)
