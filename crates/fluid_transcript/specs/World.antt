-- The world of a script: what was entered and what was stored, and nothing that is made of it.
use Rattle.std.specs.Prelude.{ℕ, List, [], ◌++◌, map, Bool, Option, Some, None, unwrap_or, bytes_eq}
use Rattle.std.specs.List.{list_any}
use Rattle.std.specs.FinMap.{FinMap, get, insert, empty}
use Rattle.fluid_table.specs.Table.{byte_order}
use Rattle.fluid_types.specs.declared.entries.Raw.{Raw}
use Rattle.fluid_types.specs.declared.entries.Raw.TheVariants.{Leave}
use Rattle.fluid_types.specs.Ledger.{Ledger}
use Rattle.fluid_rules.specs.Rules.{ledger, joined}
use Rattle.fluid_edits.specs.declared.edit.Edit.{Edit}
use Rattle.fluid_edits.specs.Replay.{Channels}
use Rattle.fluid_store.specs.Held.{Held}
use Rattle.fluid_voice.specs.declared.states.VoiceState.{VoiceState}
use Rattle.fluid_voice.specs.declared.actions.Act.{Act}
use Rattle.fluid_voice.specs.Ends.{Outcome, added_by}

-- a document: its raw entries, oldest first, and of each stored checkpoint how many of them it stands for
pub record Document : Type 0 where
  pub raws : List Raw
  pub checkpoints : List ℕ

-- a container: its document, how many entries of it stood before its client's join, the channels that it was loaded from with their
-- number, its own number, and the edits that are on their way, oldest first
pub record Container : Type 0 where
  pub document : List ℕ
  pub entries : ℕ
  pub from : Channels
  pub base : ℕ
  pub number : ℕ
  pub pending : List Edit

-- a roamer: a container of its client, which was loaded from nothing and whose pending edits, sent or waiting, are those that don't stand, in
-- the order of their numbers; how many of its edits stand, which are the first ones; and whether its connection is lost
pub record Roamer : Type 0 where
  pub client : Container
  pub stood : ℕ
  pub is_lost : Bool

-- what a name stands for: a connection, a container, a roamer, or nothing any more
pub data Name : Type 0 where
  connection : VoiceState → Name
  container : Container → Name
  roamer : Roamer → Name
  used_up : Name

-- the documents, the names of those that are open, what is held under each id, what names stand for, and the moment, which is
-- the number of lines so far
pub record World : Type 0 where
  pub documents : FinMap byte_order Document
  pub opened : List (List ℕ)
  pub store : Held
  pub names : FinMap byte_order Name
  pub moment : ℕ

-- ---- documents

abbrev pub new_document : Document
new_document = record { raws = []; checkpoints = [] }

-- the document of a name; documents come into being at their first use
abbrev pub document : World → List ℕ → Document
document w name = unwrap_or (get w.documents name) new_document

-- its raw entries, each with its verdict
abbrev pub ledger_of : Document → Ledger
ledger_of d = ledger d.raws

abbrev pub with_entries : List Raw → Document → Document
with_entries raws d = record d { raws = d.raws ++ raws }

-- the raw entries that an act with this outcome adds to a ledger
abbrev pub raws_added : Ledger → Act → Outcome → List Raw
raws_added l act outcome = map (λ entry. entry.0) (added_by l act outcome)

-- a leave for each joined client, in byte order of their ids
abbrev pub farewells : ℕ → Document → List Raw
farewells moment d = map (λ id. Leave id moment) (joined (ledger_of d))

-- a document is open
abbrev pub is_open : World → List ℕ → Bool
is_open w name = list_any (bytes_eq name) w.opened

-- as a script finds it: no document is open, no name is given, and no line was read
abbrev pub first_world : FinMap byte_order Document → Held → World
first_world documents store = record { documents = documents; opened = []; store = store; names = empty; moment = 0 }

-- ---- what a step does

-- the raw entries and the checkpoints that a step adds to its document, what is held behind it, a name with what it stands for
-- from then on, if one changes, and the lines that are written
pub record Effect : Type 0 where
  pub entries : List Raw
  pub checkpoints : List ℕ
  pub store : Held
  pub name : Option (List ℕ × Name)
  pub lines : List (List ℕ)

-- nothing is changed, and these lines are written
abbrev pub says : World → List (List ℕ) → Effect
says w lines = record { entries = []; checkpoints = []; store = w.store; name = None; lines = lines }

-- a world, and what was written on the way to it
pub record Told : Type 0 where
  pub world : World
  pub lines : List (List ℕ)

abbrev pub with_name : Option (List ℕ × Name) → FinMap byte_order Name → FinMap byte_order Name
with_name None names = names
with_name (Some named) names = insert names named.0 named.1

-- what a step adds to its document
abbrev pub grown : Effect → Document → Document
grown e d = record { raws = d.raws ++ e.entries; checkpoints = d.checkpoints ++ e.checkpoints }

-- the document of this name behind a step; a step without a document changes none
abbrev pub with_document : Effect → Option (List ℕ) → World → FinMap byte_order Document
with_document e None w = w.documents
with_document e (Some name) w = insert w.documents name (grown e (document w name))

-- the world behind what a step does to the document of this name
abbrev pub changed : Effect → Option (List ℕ) → World → World
changed e about w = record w { documents = with_document e about w; store = e.store; names = with_name e.name w.names }

abbrev pub does : Effect → Option (List ℕ) → World → Told
does e about w = record { world = changed e about w; lines = e.lines }
