-- What a crash leaves of the entries that were entered.
use Rattle.std.specs.Prelude.{◌≡◌, ℕ, List, ◌++◌}
use Rattle.fluid_types.specs.Ledger.{Ledger}
use Rattle.fluid_disk.specs.Records.{Finds}
use Rattle.fluid_document.specs.Kept.{records}

-- opening finds the records of all entries of the ledger in this image, and what stands behind them
pub record HoldsEntered (ledger : Ledger) (image : List ℕ) : Type 0 where
  pub found : List (List ℕ)
  pub finds : Finds found image
  pub behind : List (List ℕ)
  pub entered : found ≡ records ledger ++ behind
