-- What a record file promises of each crash.
use Rattle.std.proofs.Common.{◌≡◌, ◌⊎◌, inl, inr, ℕ, ◌<◌, List, [], ◌∷◌, ◌++◌, length}
use Rattle.std.specs.Prelude.{Result, Ok, Err, Some, take}
use Rattle.fluid_io.specs.Causes.{Tells}
use Rattle.fluid_io.specs.declared.faults.Failed.{Failed as Fault}
use Rattle.fluid_log.specs.declared.fault.KeeperFault.{KeeperFault}
use Rattle.fluid_disk.specs.declared.owed.Owed.{Owed}
use Rattle.fluid_disk.specs.Disk.{Stored, LeavesOnly}
use Rattle.fluid_disk.specs.Records.{IsShort}
use Rattle.fluid_disk.specs.Files.{Row, Appending, Cutting, settled, appending, cutting, Keeps, Opens, OpensAppending, OpensCutting, Stands, AppendDoes, DropDoes, CutRow}
use Rattle.fluid_disk.proofs.Moments.{weaker}
use Rattle.fluid_disk.proofs.Resting.{keeps_opens}
use Rattle.fluid_disk.proofs.Standing.{tells_from, tells_at}

module _ {D : Type 0} (seen : D → Stored) (may_leave : D → List ℕ → Type 0) where
  pub appended_some : (row : Row) (bytes : List ℕ) (disk : D) (gates : List ℕ) (owed : Owed) (result : Result (Unit {0}) KeeperFault) → AppendDoes seen may_leave row bytes disk gates owed result
      → (after : Row) × Stands seen may_leave after disk gates owed
  appended_some row bytes disk gates owed (Ok done) s = (settled (row.records ++ bytes ∷ []), s)
  appended_some row bytes disk gates owed (Err fault) (inl s) = (row, s)
  appended_some row bytes disk gates owed (Err fault) (inr failed) = (appending row.records bytes, failed.1)

  pub cut_some : (row : Row) (count : ℕ) (disk : D) (gates : List ℕ) (owed : Owed) (result : Result (Unit {0}) Fault) → CutRow seen may_leave row count disk gates owed result
      → (after : Row) × Stands seen may_leave after disk gates owed
  cut_some row count disk gates owed (Ok done) s = (settled (take count row.records), s)
  cut_some row count disk gates owed (Err fault) (inl s) = (row, s)
  cut_some row count disk gates owed (Err fault) (inr s) = (cutting row.records count, s)

  pub cut_below : (row : Row) (count : ℕ) (disk : D) (gates : List ℕ) (owed : Owed) (result : Result (Unit {0}) Fault) → DropDoes seen may_leave row.records count disk gates owed result
      → CutRow seen may_leave row count disk gates owed result
  cut_below row count disk gates owed (Ok done) s = s
  cut_below row count disk gates owed (Err fault) s = inr s

  -- between two calls
  pub opens_now : (row : Row) (disk : D) (gates : List ℕ) (owed : Owed) → Stands seen may_leave row disk gates owed → Tells (seen disk).bytes (λ _. (image : List ℕ) → may_leave disk image → Opens row image)
  opens_now row disk gates owed s =
      tells_from (seen disk).bytes _ (λ held told image now. keeps_opens row.records row.owing image s.short s.fits (tells_at (seen disk).bytes _ held told s.keeps image now))

  module _ (moment : D → ℕ) (left_since : D → ℕ → List ℕ → Type 0) where
    pub opens_appending : (row : Row) (bytes : List ℕ) (old new : D) (gates : List ℕ) (owed : Owed) → Stands seen may_leave row old gates owed → IsShort bytes
        → LeavesOnly moment left_since old new (λ image. Keeps row.records row.owing image ⊎ Keeps row.records (Appending bytes) image)
        → LeavesOnly moment left_since old new (OpensAppending row bytes)
    opens_appending row bytes old new gates owed s short run =
        weaker moment left_since old new (λ image. Keeps row.records row.owing image ⊎ Keeps row.records (Appending bytes) image) (OpensAppending row bytes)
        (λ image kept. elim kept [
          | inl k ↦ inl (keeps_opens row.records row.owing image s.short s.fits k)
          | inr k ↦ inr (keeps_opens row.records (Appending bytes) image s.short short k)
        ]) run

    pub opens_cutting : (row : Row) (count : ℕ) (old new : D) (gates : List ℕ) (owed : Owed) → Stands seen may_leave row old gates owed
        → LeavesOnly moment left_since old new (λ image. Keeps row.records row.owing image ⊎ ((count < length row.records) × Keeps row.records (Cutting count) image))
        → LeavesOnly moment left_since old new (OpensCutting row count)
    opens_cutting row count old new gates owed s run =
        weaker moment left_since old new (λ image. Keeps row.records row.owing image ⊎ ((count < length row.records) × Keeps row.records (Cutting count) image)) (OpensCutting row count)
        (λ image kept. elim kept [
          | inl k ↦ inl (keeps_opens row.records row.owing image s.short s.fits k)
          | inr k ↦ inr (keeps_opens row.records (Cutting count) image s.short k.0 k.1)
        ]) run

    pub opens_reading : (row : Row) (old new : D) (gates : List ℕ) (owed : Owed) (held : List ℕ) → (seen old).bytes ≡ Some held → Stands seen may_leave row old gates owed
        → LeavesOnly moment left_since old new (may_leave old) → LeavesOnly moment left_since old new (Opens row)
    opens_reading row old new gates owed held told s run =
        weaker moment left_since old new (may_leave old) (Opens row)
        (λ image now. keeps_opens row.records row.owing image s.short s.fits (tells_at (seen old).bytes _ held told s.keeps image now)) run
