-- Worked examples: whole scripts from the first world on, with what they write and the world behind them.
use Rattle.std.specs.Prelude.{◌≡◌, [], ◌∷◌, List, ℕ, true, false, Some, None, codes}
use Rattle.std.specs.FinMap.{FinMap, empty, insert}
use Rattle.fluid_table.specs.Table.{byte_order}
use Rattle.fluid_json.specs.Tree.{null}
use Rattle.fluid_types.specs.declared.entries.Raw.{Raw}
use Rattle.fluid_types.specs.declared.entries.Raw.TheVariants.{Join, Leave, Submit, Report}
use Rattle.fluid_types.specs.declared.entries.Offered.TheVariants.{Op, Noop, Summarize}
use Rattle.fluid_types.specs.Blobs.{blobs}
use Rattle.fluid_types.specs.Ledger.{order}
use Rattle.fluid_rules.specs.Scribe.{protocol}
use Rattle.fluid_edits.specs.declared.edit.Edit.TheVariants.{Attach, Clear}
use Rattle.fluid_edits.specs.declared.edit.ChannelKind.TheVariants.{Map}
use Rattle.fluid_edits.specs.Forms.{contents_of}
use Rattle.fluid_edits.specs.Replay.{no_channels}
use Rattle.fluid_scribe.specs.declared.job.Job.{Job}
use Rattle.fluid_store.specs.Held.{Held}
use Rattle.fluid_store.specs.Putting.{Putting, Clashing}
use Rattle.fluid_loader.specs.declared.link.Pick.TheVariants as pick
use Rattle.fluid_loader.specs.Submitting.{numbered, summarize_tree}
use Rattle.fluid_voice.specs.declared.states.VoiceState.TheVariants.{Writing}
use Rattle.fluid_transcript.specs.World.{Name, World, first_world, Document, Container, connection, container, used_up, ledger_of}
use Rattle.fluid_transcript.specs.Connections.{closed}
use Rattle.fluid_transcript.specs.Documents.{scribed, reported, stored}
use Rattle.fluid_transcript.specs.Containers.{all_scopes, app_id, beaten, channels, pumped, load, summarized_by}
use Rattle.fluid_transcript.specs.Transcript.{behind, lines_of, last_line}
use Rattle.fluid_transcript.specs.Examples.{nothing, few, d, p, two_clients, one_client}
use Rattle.fluid_transcript.specs.LineExamples.{id}

-- nothing was entered, and nothing is held
abbrev pub at_first : World
at_first = first_world empty empty

-- one document is open, with these entries
abbrev pub with_one : ℕ → List Raw → FinMap byte_order Name → World
with_one moment raws names = record { documents = insert empty d (record { raws = raws; checkpoints = [] }); opened = d ∷ []; store = empty; names = names; moment = moment }

-- ---- sweeps

abbrev pub sweep_lines : List (List ℕ)
sweep_lines = codes "load a d none" ∷ codes "load b d none" ∷ codes "beat b" ∷ codes "sweep d 2" ∷ codes "sweep d 2" ∷ codes "sweep d 2" ∷ []

-- a container that was loaded from nothing, behind so many entries and at this number
abbrev pub from_nothing : (entries number : ℕ) → Container
from_nothing entries number = record { document = d; entries = entries; from = no_channels; base = 0; number = number; pending = [] }

-- the first was last heard of at the moment 1, the second at 3
pub record SweepScript : Type 0 where
  pub lines :
      lines_of few at_first sweep_lines
      ≡ codes "a loaded d at 1" ∷ codes "b loaded d at 2" ∷ codes "b beats at 2" ∷ codes "d swept c0" ∷ codes "d swept none" ∷ codes "d swept c1" ∷ []
  pub world :
      behind few at_first sweep_lines
      ≡ with_one 6
      (Join (codes "c0") all_scopes null 1
      ∷ Join (codes "c1") all_scopes null 2
      ∷ Submit (codes "c1") (numbered 1 2 Noop null) 3
      ∷ Leave (codes "c0") 4
      ∷ Leave (codes "c1") 6
      ∷ [])
      (insert (insert empty (codes "a") (container (from_nothing 0 1))) (codes "b") (container (from_nothing 1 2)))

-- ---- a document that is opened as by a new process

abbrev pub reopen_lines : List (List ℕ)
reopen_lines =
    codes "load p d none"
    ∷ codes "edit p {\"type\":\"attach\",\"address\":\"m\",\"kind\":\"map\"}"
    ∷ codes "reopen d"
    ∷ codes "edit p {\"address\":\"m\",\"contents\":{\"type\":\"clear\"}}"
    ∷ []

-- the container's id has left; its edit is refused, and its entry stays
pub record ReopenScript : Type 0 where
  pub lines :
      lines_of few at_first reopen_lines
      ≡ codes "p loaded d at 1" ∷ codes "p edited" ∷ codes "d reopened: 3 entries, number 3, minimum 3" ∷ codes "p refused 400: Nonexistent client" ∷ []
  pub world :
      behind few at_first reopen_lines
      ≡ with_one 4
      (Join (codes "c0") all_scopes null 1
      ∷ Submit (codes "c0") (numbered 1 1 Op (contents_of (Attach (codes "m") Map))) 2
      ∷ Leave (codes "c0") 3
      ∷ Submit (codes "c0") (numbered 2 1 Op (contents_of (Clear (codes "m")))) 4
      ∷ [])
      (insert empty (codes "p") (container (record (from_nothing 0 1) { pending = Attach (codes "m") Map ∷ [] })))

-- ---- the last container

pub record Last : Type 0 where
  pub shows : last_line few at_first d [] ≡ codes "d at 1: {}\n"

-- ---- single steps

-- a connection that writes leaves by an entry, and its name is used up
abbrev pub writing_c : World
writing_c = record nothing { names = insert empty (codes "c") (connection (Writing d (codes "c0") 1)) }

pub record Closes : Type 0 where
  pub leave : (closed writing_c (codes "c")).entries ≡ Leave (codes "c0") 20 ∷ []
  pub used : (closed writing_c (codes "c")).name ≡ Some (codes "c", used_up)

-- a load that is refused uses its name up; one behind a join has one more entry
pub record LoadNames : Type 0 where
  pub refused : (load few nothing two_clients (codes "r") d pick.Empty).name ≡ Some (codes "r", used_up)
  pub none : (load few nothing one_client (codes "s") d pick.Latest).name ≡ Some (codes "s", used_up)
  pub loaded : (load few nothing one_client (codes "q") d pick.Empty).name ≡ Some (codes "q", container (from_nothing 2 3))

-- an earlier client had the same id; the container's own first submission has the number 1 all the same
abbrev pub again : Document
again = record {
  raws =
      Join (codes "c3") all_scopes null 1
      ∷ Submit (codes "c3") (numbered 1 1 Op (contents_of (Attach (codes "m") Map))) 2
      ∷ Leave (codes "c3") 3
      ∷ Join (codes "c3") all_scopes null 4
      ∷ [];
  checkpoints = [];
}

pub record Again : Type 0 where
  pub line : (beaten few nothing again (codes "p") (from_nothing 3 4)).lines ≡ codes "p beats at 4" ∷ []
  pub entry : (beaten few nothing again (codes "p") (from_nothing 3 4)).entries ≡ Submit (codes "c3") (numbered 1 4 Noop null) 20 ∷ []

-- both of its edits stand in the order
pub record Pumps : Type 0 where
  pub container_is : (pumped nothing two_clients (codes "p") p).name ≡ Some (codes "p", container (record p { number = 6; pending = [] }))

-- a checkpoint is the next one, of all entries; one that is as large as may be is stored
pub record Stores : Type 0 where
  pub line : (stored few nothing two_clients d 1000).lines ≡ codes "d checkpoint 2 at 6" ∷ []
  pub count : (stored few nothing two_clients d 1000).checkpoints ≡ 6 ∷ []
  pub large : (stored few nothing two_clients d 1001).lines ≡ codes "d checkpoint too large: 1001 bytes" ∷ []
  pub none : (stored few nothing two_clients d 1001).checkpoints ≡ []

-- ---- objects that are put

-- the first container at the last message
abbrev pub at_six : Container
at_six = record p { number = 6; pending = [] }

-- one object was put, and another clashed
abbrev pub held : Held
held = insert empty id (codes "tree 0")

abbrev pub clash : Clashing
clash = record { id = id; kept = codes "tree 0"; bytes = codes "blob 0" }

abbrev pub put_some : Putting
put_some = record { held = held; put = []; clash = Some clash }

abbrev pub put_all : Putting
put_all = record { held = held; put = []; clash = None }

-- the first container asks for a summary: head is empty, since none is acknowledged, and its number is the third
pub record Summarizes : Type 0 where
  pub line : (summarized_by few nothing (ledger_of two_clients) (codes "p") at_six put_all None).lines ≡ codes "p summarized at 6" ∷ []
  pub entry :
      (summarized_by few nothing (ledger_of two_clients) (codes "p") at_six put_all None).entries
      ≡ Submit (codes "c0") (numbered 3 6 Summarize (summarize_tree (app_id (channels (ledger_of two_clients) at_six)) None 6)) 20 ∷ []
  pub kept : (summarized_by few nothing (ledger_of two_clients) (codes "p") at_six put_all None).store ≡ held
  -- at a clash nothing is entered, and what was put stays
  pub clash_line : (summarized_by few nothing (ledger_of two_clients) (codes "p") at_six put_some (Some clash)).lines ≡ codes "p clash 4b825dc642cb6eb9a060e54bf8d69288fbee4904" ∷ []
  pub no_entry : (summarized_by few nothing (ledger_of two_clients) (codes "p") at_six put_some (Some clash)).entries ≡ []
  pub still_held : (summarized_by few nothing (ledger_of two_clients) (codes "p") at_six put_some (Some clash)).store ≡ held

-- a client asks for a summary of a tree, and its summarize is the second message
abbrev pub asking : List Raw
asking = Join (codes "c0") all_scopes null 1 ∷ Submit (codes "c0") (numbered 1 1 Summarize (summarize_tree id None 1)) 2 ∷ []

abbrev pub asked : Document
asked = record { raws = asking; checkpoints = [] }

abbrev pub the_job : Job
the_job = record { summary = 2; app = Some id; protocol = protocol (blobs (order (ledger_of asked)) 1); reference = 1; needs_storage = true }

pub record Scribes : Type 0 where
  -- over a store that holds nothing
  pub missing : (scribed nothing asked d).lines ≡ codes "d scribe nack 2: summary tree is not stored" ∷ []
  pub report : (scribed nothing asked d).entries ≡ Report 2 false 20 ∷ []
  -- where all objects of the version were put
  pub ack : (reported nothing (ledger_of asked) d the_job true put_all None).lines ≡ codes "d scribe ack 2" ∷ []
  pub found : (reported nothing (ledger_of asked) d the_job true put_all None).entries ≡ Report 2 true 20 ∷ []
  pub kept : (reported nothing (ledger_of asked) d the_job true put_all None).store ≡ held
  -- where one clashed
  pub clash_line : (reported nothing (ledger_of asked) d the_job true put_some (Some clash)).lines ≡ codes "d scribe clash 4b825dc642cb6eb9a060e54bf8d69288fbee4904" ∷ []
  pub no_report : (reported nothing (ledger_of asked) d the_job true put_some (Some clash)).entries ≡ []
