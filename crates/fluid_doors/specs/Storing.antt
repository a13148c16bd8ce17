-- Checkpoints and restarts.
use Rattle.std.specs.Prelude.{◌≡◌, ⊤, ◌⊎◌, ℕ, ◌+◌, ◌<◌, ◌≤◌, nat_le, Bool, List, [], ◌∷◌, length, Result}
use Rattle.fluid_document.specs.Entries.{entries_of}
use Rattle.fluid_document.specs.Kept.{checkpoint_text}
use Rattle.fluid_lane.specs.declared.steps.Step.{Step}
use Rattle.fluid_lane.specs.declared.fault.LaneFault.{LaneFault}
use Rattle.fluid_lane.specs.declared.fault.LaneFault.TheVariants.{LogFailed, BadRecord, NoCheckpoint, CheckpointsFull, DeltaFailed, NoMemory, BadCheckpoint, TooLarge}
use Rattle.fluid_lane.specs.Faults.{IsOutside}
use Rattle.fluid_lane.specs.Steps.{ledger, asides, stored}
use Rattle.fluid_doors.specs.declared.bench.Terms.{Terms}
use Rattle.fluid_doors.specs.Answers.{IsFailure, Answers}

-- how many checkpoints the document has: those that its lane found, and those stored since
abbrev pub stored_in : Terms → List Step → ℕ
stored_in t l = t.opened + stored l

-- the length of the checkpoint's text for the ledger
abbrev pub text_length : List Step → ℕ
text_length l = length (checkpoint_text (entries_of (ledger l)))

-- as many are stored as the document takes
abbrev pub has_checkpoints_at : Terms → List Step → Bool × LaneFault
has_checkpoints_at t l = (nat_le t.limits.checkpoints (stored_in t l), CheckpointsFull)

-- the keeper failed, memory was wanting, or the text of the checkpoint is longer than the document takes. Where it is, the log
-- fails only at a cut that was owed, which it is only behind a side step
abbrev pub IsStoreFault : Terms → List Step → LaneFault → Type 0
IsStoreFault t l (LogFailed note) = (text_length l ≤ t.limits.bytes) ⊎ (0 < asides l)
IsStoreFault t l (DeltaFailed note) = ⊤
IsStoreFault t l NoMemory = ⊤
IsStoreFault t l (TooLarge bytes) = (bytes ≡ text_length l) × (t.limits.bytes < bytes)
IsStoreFault t l other = ⊥

-- the checkpoint has the next number, and its text isn't too long
abbrev pub IsStored : Terms → List Step → ℕ → Type 0
IsStored t l number = (number ≡ stored_in t l) × (text_length l ≤ t.limits.bytes)

-- its faults over any keeper
abbrev pub IsCheckpointFault : Terms → LaneFault → Type 0
IsCheckpointFault t CheckpointsFull = ⊤
IsCheckpointFault t (TooLarge bytes) = t.limits.bytes < bytes
IsCheckpointFault t other = IsFailure other

abbrev pub Checkpoints : Terms → Result ℕ LaneFault → List Step → Type 0
Checkpoints t result l = Answers t (IsCheckpointFault t) (has_checkpoints_at t l ∷ []) (IsStoreFault t l) (IsStored t l) result l

-- no checkpoint of this number is stored
abbrev pub has_none_at : Terms → List Step → ℕ → Bool × LaneFault
has_none_at t l number = (nat_le (stored_in t l) number, NoCheckpoint number (stored_in t l))

-- the faults of a restart over any keeper: what was read may be refused
abbrev pub IsRestartFault : ℕ → LaneFault → Type 0
IsRestartFault number (NoCheckpoint asked count) = (asked ≡ number) × (count ≤ number)
IsRestartFault number (BadRecord place) = ⊤
IsRestartFault number (BadCheckpoint bad fault) = ⊤
IsRestartFault number other = IsFailure other

-- over a keeper that tells its content what was read is never refused
abbrev pub Restarts : Terms → ℕ → Result (Unit {0}) LaneFault → List Step → Type 0
Restarts t number result l = Answers t (IsRestartFault number) (has_none_at t l number ∷ []) IsOutside (λ _. ⊤) result l
