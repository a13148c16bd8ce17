-- When a keeper is kept for a ledger.
use Rattle.std.specs.Prelude.{◌≡◌, ◌⊎◌, ℕ, ◌≤◌, ⊤, Bool, false, List, [], ◌∷◌, ◌++◌, length, map, All, IsUtf8}
use Rattle.fluid_types.specs.Fits.{Fits}
use Rattle.fluid_types.specs.Printed.{raw_printed}
use Rattle.fluid_types.specs.declared.entries.Raw.{Raw}
use Rattle.fluid_types.specs.declared.verdicts.Verdict.{Verdict}
use Rattle.fluid_types.specs.Ledger.{Ledger, order, seq}
use Rattle.fluid_rules.specs.Rules.{IsLegal}
use Rattle.fluid_log.specs.Keeping.{Content, IsText}
use Rattle.fluid_quorum.specs.Node.{AreTexts}
use Rattle.fluid_checkpoint.specs.Text.{first_printed, state_printed}
use Rattle.fluid_checkpoint.specs.Laws.{IsWritten}
use Rattle.fluid_checkpoint.specs.Heard.{state_of}
use Rattle.fluid_checkpoint.specs.declared.state.State.{State as Checkpoint}
use Rattle.fluid_deltas.specs.Pushed.{AreDeltasOf}
use Rattle.fluid_types.specs.Forms.{largest}
use Rattle.fluid_document.specs.Entries.{Entries, entries_of}

-- a raw entry that a log takes: it fits, and its record is a text
pub record IsLoggable (entry : Raw × Verdict) : Type 0 where
  pub fits : Fits entry.0
  pub text : IsText (raw_printed entry.0)

-- the records of a ledger
abbrev pub records : Ledger → List (List ℕ)
records ledger = map (λ entry. raw_printed entry.0) ledger

-- the bytes are the record of an entry that a log takes
pub record IsRecordOf (bytes : List ℕ) : Type 0 where
  pub raw : Raw
  pub fits : Fits raw
  pub is : bytes ≡ raw_printed raw
  pub text : IsText bytes

-- no record, or one of an entry
abbrev pub IsTorn : List (List ℕ) → Type 0
IsTorn [] = ⊤
IsTorn (bytes ∷ []) = IsRecordOf bytes
IsTorn (bytes ∷ more ∷ rest) = ⊥

-- the log is the records of the ledger; where a cut is owed, the record of one entry may stand behind them
pub record IsLogOf (owed : Bool) (ledger : Ledger) (log : List (List ℕ)) : Type 0 where
  pub behind : List (List ℕ)
  pub splits : log ≡ records ledger ++ behind
  pub level : owed ≡ false → behind ≡ []
  pub torn : IsTorn behind

-- what a checkpoint keeps of what the entries made, and its text
abbrev pub checkpoint_state : Entries → Checkpoint
checkpoint_state e =
    state_of e.entered e.counted
    (record { sequence = e.state.sequencer.sequence; minimum = e.state.sequencer.last_minimum; rows = e.state.sequencer.rows })
    e.state.scribe

unfoldable pub checkpoint_text : Entries → List ℕ
checkpoint_text e = state_printed (checkpoint_state e)

-- the bytes are the text that is printed of what the entries made. Contracts see a text as a list of numbers, so that it is
-- one has to be said
pub record IsPrinted (e : Entries) (bytes : List ℕ) : Type 0 where
  pub text : bytes ≡ checkpoint_text e
  pub written : IsWritten (checkpoint_state e)

-- they are its text in version 1, which is read and isn't printed any more
pub record IsOfFirst (e : Entries) (bytes : List ℕ) : Type 0 where
  pub text : bytes ≡ first_printed (checkpoint_state e)
  pub utf8 : IsUtf8 (first_printed (checkpoint_state e))
  pub blobs : AreTexts e.state.scribe.base

-- the bytes are the text of a checkpoint that stands for a prefix of the ledger whose messages are all among the deltas
pub record IsCheckpointOf (ledger : Ledger) (deltas : ℕ) (bytes : List ℕ) : Type 0 where
  pub before : Ledger
  pub behind : Ledger
  pub splits : ledger ≡ before ++ behind
  pub text : IsPrinted (entries_of before) bytes ⊎ IsOfFirst (entries_of before) bytes
  pub reached : seq before ≤ deltas

-- a keeper of this content is kept for the ledger
pub record IsKept (owed : Bool) (ledger : Ledger) (content : Content) : Type 0 where
  pub legal : IsLegal ledger
  pub few : length ledger ≤ largest
  pub loggable : All IsLoggable ledger
  pub log : IsLogOf owed ledger content.log
  pub deltas : AreDeltasOf (order ledger) content.deltas
  pub checkpoints : All (IsCheckpointOf ledger (length content.deltas)) content.checkpoints
