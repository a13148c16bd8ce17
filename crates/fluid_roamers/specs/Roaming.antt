-- When a roamer of a script is the one that the world has.
use Rattle.std.specs.Prelude.{◌≡◌, ◌≤◌, ℕ, ◌+◌, Bool, true, false, List, [], ◌++◌, map, drop, length, Option, Some, None, if◌then◌else◌}
use Rattle.fluid_types.specs.Ledger.{Ledger, order}
use Rattle.fluid_types.specs.Names.{entry_name}
use Rattle.fluid_rules.specs.Past.{has_id}
use Rattle.fluid_edits.specs.declared.edit.Edit.{Edit}
use Rattle.fluid_edits.specs.Forms.{contents_of}
use Rattle.fluid_loader.specs.Container.{AContainer}
use Rattle.fluid_outbox.specs.Past.{Past, edits, ids, current, heard_to, acknowledged, sent}
use Rattle.fluid_outbox.specs.Kept.{Stands as OutboxStands}
use Rattle.fluid_transcript.specs.World.{Roamer as ARoamer, World}
use Rattle.fluid_transcript.specs.Roamers.{edits as edits_said}
use Rattle.fluid_transcript.specs.Containers.{id_of, last}
use Rattle.fluid_transcript.specs.Sound.{ledger_in}
use Rattle.fluid_holding.specs.Holding.{IsContainerOf}
use Rattle.fluid_roamers.specs.Ahead.{IsBeside, own_in}
use Rattle.fluid_roamers.specs.declared.roamer.Roamer.{Roamer}

-- no other id was used than those of entries up to this one
abbrev pub AreUsed : (entries : ℕ) → Past → Type 0
AreUsed entries past = (id : List ℕ) → has_id id (ids past) ≡ true → (n : ℕ) × ((n ≤ entries) × (id ≡ entry_name n))

abbrev pub current_of : (is_lost : Bool) → (id : List ℕ) → Option (List ℕ)
current_of is_lost id = if is_lost then None else Some id

-- of its pending edits those before `rest` were sent for its client, and all that were sent for it stand in the order
pub record IsSending (l : Ledger) (past : Past) (k : ARoamer) (own : ℕ) (rest : List Edit) : Type 0 where
  pub out : List Edit
  pub are : k.client.pending ≡ out ++ rest
  pub sent_are : own + length out ≡ sent past (id_of k.client)
  pub stand : own + own_in (id_of k.client) (drop k.client.number (order l)) ≡ sent past (id_of k.client)
  pub last_is : last l k.client ≡ sent past (id_of k.client)

-- over the ledger of its document, where the last pending edits, `rest`, weren't sent for its client yet: it shows what a container of
-- its client does, and its outbox stands beside the ledger
pub record IsRoaming (l : Ledger) (h : Roamer) (k : ARoamer) (rest : List Edit) : Type 0 where
  pub document : h.document ≡ k.client.document
  pub held : AContainer
  pub container : IsContainerOf l h.client held k.client
  pub channels : h.app.channels ≡ held.channels
  pub pending : h.app.pending ≡ k.client.pending
  pub edits_are : h.edits ≡ edits_said k
  pub past : Past
  pub outbox : OutboxStands h.outbox past
  pub stood : acknowledged past ≡ k.stood
  pub contents : drop k.stood (edits past) ≡ map contents_of k.client.pending
  pub heard : heard_to past ≡ k.client.number
  -- so many edits stood when its client joined, and of those that were sent for it so many are acknowledged
  pub before : ℕ
  pub own : ℕ
  pub beside : IsBeside l past (id_of k.client) k.client.number before own
  pub used : AreUsed k.client.entries past
  pub now : current past ≡ current_of k.is_lost (id_of k.client)
  pub sends : k.is_lost ≡ false → IsSending l past k own rest

-- one whose edits were all sent for its client, unless it is lost
abbrev pub IsRoamerIn : Ledger → Roamer → ARoamer → Type 0
IsRoamerIn l h k = IsRoaming l h k []

-- and in a world
abbrev pub IsRoamerOf : World → Roamer → ARoamer → Type 0
IsRoamerOf w h k = IsRoamerIn (ledger_in w k.client.document) h k
