-- When the open documents of a user, the shelves of their keepers and the store of objects stand for a world.
use Rattle.std.specs.Prelude.{◌≡◌, ℕ, ◌≤◌, Bool, true, false, List, length, Option, Some, None}
use Rattle.std.specs.FinMap.{FinMap, get, len}
use Rattle.fluid_table.specs.Table.{byte_order}
use Rattle.fluid_log.specs.Keeping.{Content, Keeping}
use Rattle.fluid_log.specs.Shelving.{Shelving, keeper_under}
use Rattle.fluid_document.specs.Kept.{IsKept}
use Rattle.fluid_rules.specs.declared.limits.Limits.{Limits}
use Rattle.fluid_store.specs.Storing.{Storing}
use Rattle.fluid_lane.specs.declared.steps.Step.{Step}
use Rattle.fluid_lane.specs.Steps.{ledger}
use Rattle.fluid_lane.specs.Standing.{Standing, LaneStands}
use Rattle.fluid_opening.specs.declared.opening.TheConstants.{MOST_DOCUMENTS}
use Rattle.fluid_lanes.specs.Opened.{Opened}
use Rattle.fluid_transcript.specs.World.{Document, World, document, is_open, ledger_of}

-- ---- one document

-- a lane stands for a list of steps whose ledger is that of the document's raw entries, over a keeper that tells its content; between
-- the steps of a script no cut is owed, and as many checkpoints are stored as the document has
pub record IsLaneOf (limits : Limits) (s : Standing) (d : Document) : Type 0 where
  pub list : List Step
  pub stands : LaneStands s list
  pub entries : ledger list ≡ ledger_of d
  pub level : s.owed ≡ false
  pub content : Content
  pub told : s.keeping.content ≡ Some content
  pub limits_are : s.limits ≡ limits
  pub checkpoints : s.keeping.checkpoints ≡ length d.checkpoints

-- the keeper of a document that isn't open is kept for its ledger
pub record IsKeeperOf (k : Keeping) (d : Document) : Type 0 where
  pub content : Content
  pub told : k.content ≡ Some content
  pub kept : IsKept false (ledger_of d) content
  pub checkpoints : k.checkpoints ≡ length d.checkpoints

-- a document that is open has a lane, and one that isn't a keeper on its shelf
abbrev pub IsDocument : Limits → Option Standing → Keeping → Bool → Document → Type 0
IsDocument limits (Some lane) keeper true d = IsLaneOf limits lane d
IsDocument limits None keeper false d = IsKeeperOf keeper d
IsDocument limits (Some lane) keeper false d = ⊥
IsDocument limits None keeper true d = ⊥

-- ---- all of them

-- what is open over shelves that tell their keepers is what the world has open, and each document is the world's under its name
pub record DeskStands (o : Opened) (w : World) : Type 0 where
  pub held : FinMap byte_order Keeping
  pub told : o.shelving.held ≡ Some held
  pub documents : (name : List ℕ) → IsDocument o.limits (get o.lanes name) (keeper_under held name) (is_open w name) (document w name)
  pub count : len o.lanes ≡ length w.opened
  pub few : len o.lanes ≤ MOST_DOCUMENTS

-- the shelves of a desk that was handed back tell the documents of the world
pub record ShelvesTell (s : Shelving) (w : World) : Type 0 where
  pub held : FinMap byte_order Keeping
  pub told : s.held ≡ Some held
  pub documents : (name : List ℕ) → IsKeeperOf (keeper_under held name) (document w name)

-- the store holds what the world has stored
abbrev pub StoreStands : Storing → World → Type 0
StoreStands s w = s.content ≡ Some w.store
