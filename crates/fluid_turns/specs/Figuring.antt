-- The numbers of the document.
use Rattle.std.specs.Prelude.{◌≡◌, ℕ, length, Option, Some, None}
use Rattle.fluid_types.specs.Ledger.{order, seq}
use Rattle.fluid_rules.specs.Scribe.{acks}
use Rattle.fluid_clients.specs.declared.table.Row.{Row}
use Rattle.fluid_lane.specs.Standing.{Standing}
use Rattle.fluid_transcript.specs.World.{Document, ledger_of}
use Rattle.fluid_turns.specs.declared.figures.Figures.{Figures}

-- these are the numbers of a document
pub record AreFigures (f : Figures) (d : Document) : Type 0 where
  pub entries : f.entries ≡ length d.raws
  pub sequence : f.sequence ≡ seq (ledger_of d)
  pub checkpoints : f.checkpoints ≡ length d.checkpoints
  pub summaries : f.summaries ≡ length (acks (order (ledger_of d)))

-- these are the numbers of a lane
pub record ReadsOff (s : Standing) (f : Figures) : Type 0 where
  pub entries : f.entries ≡ s.entries.entered
  pub sequence : f.sequence ≡ s.entries.state.sequencer.sequence
  pub checkpoints : f.checkpoints ≡ s.keeping.checkpoints
  pub summaries : f.summaries ≡ length s.entries.state.scribe.acks

-- the last client number in a row
abbrev pub last_in : Option Row → ℕ
last_in None = 0
last_in (Some row) = row.last
