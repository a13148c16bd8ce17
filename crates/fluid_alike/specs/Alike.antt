-- That a workload ends with two containers of the same state.
use Rattle.std.specs.Prelude.{◌≡◌, ◌≤◌, ◌*◌, ◌+◌, ℕ, List, [], ◌∷◌, ◌++◌, All, length, codes}
use Rattle.std.specs.FinMap.{FinMap}
use Rattle.fluid_table.specs.Table.{byte_order}
use Rattle.fluid_rules.specs.declared.limits.Limits.{Limits}
use Rattle.fluid_store.specs.Held.{Held, IsShort}
use Rattle.fluid_types.specs.Forms.{largest}
use Rattle.fluid_document.specs.Kept.{IsLoggable}
use Rattle.fluid_transcript.specs.World.{Document, World, document, first_world}
use Rattle.fluid_transcript.specs.Sound.{ledger_in}
use Rattle.fluid_workload.specs.Working.{work}
use Rattle.fluid_workload.specs.Summary.{LoadsSame, behind_all, written_by}

-- the entries of the document fit a log, and no object that is held is too long to be read
pub record IsReadable (w : World) : Type 0 where
  pub entries : All IsLoggable (ledger_in w work)
  pub few : length (ledger_in w work) ≤ largest
  pub short : IsShort w.store

-- the document has room for all that is entered, and for all clients and the two containers
pub record HasRoom (limits : Limits) (clients ops : ℕ) : Type 0 where
  pub for_entries : 10 + 3 * clients + 7 * ops ≤ limits.entries
  pub for_clients : clients + 2 ≤ limits.clients

-- bytes that end so
abbrev pub EndsWith : (last bytes : List ℕ) → Type 0
EndsWith last bytes = (prefix : List ℕ) × (bytes ≡ prefix ++ last)

-- both containers have the same state, and the last line that is written is `loaded same`
pub record EndsSame (limits : Limits) (w : World) (number clients ops : ℕ) : Type 0 where
  pub states : LoadsSame limits w number clients ops
  pub last_line : EndsWith (codes "loaded same" ++ 10 ∷ []) (written_by limits w number clients ops)

-- from a world in which the document has no entry, where what is left behind can be read
abbrev pub WorkloadsEndSame : Type 0
WorkloadsEndSame =
    (limits : Limits) (documents : FinMap byte_order Document) (held : Held) (number clients ops : ℕ) → HasRoom limits clients ops → (document (first_world documents held) work).raws ≡ []
    → IsReadable (behind_all limits (first_world documents held) number clients ops).world → EndsSame limits (first_world documents held) number clients ops
