-- What a kept content comes back as.
use Rattle.std.specs.Prelude.{◌≡◌, ℕ, ◌+◌, ◌≤◌, ◌<◌, false, List, ◌++◌, length, All, slice_get, Some, None, Ok}
use Rattle.fluid_types.specs.Ledger.{Ledger}
use Rattle.fluid_rules.specs.Rules.{IsLegal, IsLegalBehind}
use Rattle.fluid_log.specs.Keeping.{Content}
use Rattle.fluid_types.specs.Forms.{largest}
use Rattle.fluid_document.specs.Entries.{entries_of}
use Rattle.fluid_document.specs.Loading.{log_folded, begun, loaded}
use Rattle.fluid_document.specs.Kept.{IsLoggable, records, IsPrinted, IsKept}

-- the records of a legal ledger behind another one are folded to both together
abbrev pub RecordsAreFolded : Type 0
RecordsAreFolded =
    (before l : Ledger) → IsLegal before → IsLegalBehind before l → All IsLoggable l → length before + length l ≤ largest
    → log_folded (entries_of before) (records l) ≡ Ok (entries_of (before ++ l))

-- what a keeper is kept for is what is read of it, from its first record on
abbrev pub KeptIsLoaded : Type 0
KeptIsLoaded = (l : Ledger) (content : Content) → IsKept false l content → loaded content None ≡ Ok (entries_of l)

-- and from each of its checkpoints
abbrev pub CheckpointIsLoaded : Type 0
CheckpointIsLoaded = (l : Ledger) (content : Content) (number : ℕ) → IsKept false l content → number < length content.checkpoints → loaded content (Some number) ≡ Ok (entries_of l)

-- a checkpoint that was printed of the first entries of the ledger counts them: a reading begins behind them
abbrev pub CheckpointsAreCounted : Type 0
CheckpointsAreCounted =
    (before behind : Ledger) (content : Content) (number : ℕ) (text : List ℕ) → IsKept false (before ++ behind) content → slice_get content.checkpoints number ≡ Some text → IsPrinted (entries_of before) text
    → (begun content (Some number) ≡ Ok (entries_of before)) × ((entries_of before).entered ≡ length before)
