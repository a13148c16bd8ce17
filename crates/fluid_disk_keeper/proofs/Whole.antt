-- What a crash leaves of a log that only grows.
use Rattle.std.proofs.Common.{◌≡◌, inl, inr, ℕ, ◌≤◌, ◌<◌, List, length, take, refl, sym, ◌∙◌, ap, subst, arith}
use Rattle.std.specs.Prelude.{Result, Ok, Err}
use Rattle.std.proofs.lemmas.List.{take_all}
use Rattle.fluid_io.specs.Causes.{Tells}
use Rattle.fluid_io.specs.declared.faults.Failed.{Failed as Fault}
use Rattle.fluid_log.specs.declared.fault.KeeperFault.{KeeperFault}
use Rattle.fluid_disk.specs.Disk.{Stored, LeavesOnly}
use Rattle.fluid_disk.specs.Records.{Finds}
use Rattle.fluid_disk.specs.Files.{Owing, Nothing, Appending, Cutting, Row, settled, appending, cutting, MayFind, Opens, OpensAppending, OpensCutting, Recording, StandsFor, AppendsRecord, CutsRecords}
use Rattle.fluid_disk.proofs.Moments.{started, weaker}
use Rattle.fluid_disk.proofs.Standing.{tells_at, tells_from}
use Rattle.fluid_disk_keeper.specs.Keepers.{Texts, DiskKeeping, kept_on, LeavesRow}
use Rattle.fluid_disk_keeper.specs.Growing.{LeavesWhole, IsUncut, OwesNoCut}
use Rattle.fluid_disk_keeper.proofs.Contents.{log_at, count_is}

-- ---- what is found

whole_at : (records : Texts) (owing : Owing) (found : Texts) (image : List ℕ) → IsUncut owing → Finds found image → MayFind records owing found → LeavesWhole records image
whole_at records Nothing found image uncut finds is = (found, finds, inl is)
whole_at records (Appending bytes) found image uncut finds (inl is) = (found, finds, inl is)
whole_at records (Appending bytes) found image uncut finds (inr is) = (found, finds, inr (bytes, is))
whole_at records (Cutting count) found image uncut finds is = absurd uncut

pub whole : (row : Row) (image : List ℕ) → IsUncut row.owing → Opens row image → LeavesWhole row.records image
whole row image uncut opens = whole_at row.records row.owing opens.0 image uncut opens.1 opens.2

pub whole_appending : (row : Row) (bytes image : List ℕ) → IsUncut row.owing → OpensAppending row bytes image → LeavesWhole row.records image
whole_appending row bytes image uncut (inl opens) = whole row image uncut opens
whole_appending row bytes image uncut (inr opens) = whole (appending row.records bytes) image tt opens

not_cut : (records : Texts) (count : ℕ) (found : Texts) → length records ≤ count → MayFind records (Cutting count) found → found ≡ records
not_cut records count found long (inl is) = is
not_cut records count found long (inr is) = is ∙ take_all count records long

pub whole_cutting : (row : Row) (count : ℕ) (image : List ℕ) → IsUncut row.owing → length row.records ≤ count → OpensCutting row count image → LeavesWhole row.records image
whole_cutting row count image uncut long (inl opens) = whole row image uncut opens
whole_cutting row count image uncut long (inr opens) = (opens.0, opens.1, inl (not_cut row.records count opens.0 long opens.2))

module _ {D : Type 0} (seen : D → Stored) (may_leave : D → List ℕ → Type 0) where
  -- ---- no cut is owed

  pub append_uncut : (row : Row) (bytes : List ℕ) (file : Recording D) (result : Result (Unit {0}) KeeperFault) → IsUncut row.owing → AppendsRecord seen may_leave row bytes file result → OwesNoCut seen may_leave file
  append_uncut row bytes file (Ok done) uncut s = (settled _, s, tt)
  append_uncut row bytes file (Err fault) uncut (inl s) = (row, s, uncut)
  append_uncut row bytes file (Err fault) uncut (inr failed) = (appending row.records bytes, failed.1, tt)

  pub cut_uncut : (row : Row) (count : ℕ) (file : Recording D) (result : Result (Unit {0}) Fault) → IsUncut row.owing → length row.records ≤ count → CutsRecords seen may_leave row count file result → OwesNoCut seen may_leave file
  cut_uncut row count file (Ok done) uncut long s = (settled _, s, tt)
  cut_uncut row count file (Err fault) uncut long (inl s) = (row, s, uncut)
  cut_uncut row count file (Err fault) uncut long (inr s) = let fits : count < length row.records = s.fits in absurd (omega (arith, fits, long))

  -- ---- what is told

  pub crash_left : (moment : D → ℕ) (left_since : D → ℕ → List ℕ → Type 0) (k : DiskKeeping D) (new : D) (row : Row) (Q : List ℕ → Type 0) → StandsFor seen may_leave row k.log → Tells (seen k.log.disk).bytes (may_leave k.log.disk)
      → Tells (seen k.log.disk).bytes (λ _. LeavesOnly moment left_since k.log.disk new Q) → ((image : List ℕ) → Q image → LeavesWhole row.records image)
      → Tells (kept_on seen k).content (λ c. LeavesOnly moment left_since k.log.disk new (LeavesWhole c.log))
  crash_left moment left_since k new row Q s leaves crash each =
      log_at seen may_leave (λ l. LeavesOnly moment left_since k.log.disk new (LeavesWhole l)) k row s leaves
      (tells_from (seen k.log.disk).bytes (λ _. LeavesOnly moment left_since k.log.disk new (LeavesWhole row.records)) (λ held told.
      weaker moment left_since k.log.disk new Q (LeavesWhole row.records) each (tells_at (seen k.log.disk).bytes (λ _. LeavesOnly moment left_since k.log.disk new Q) held told crash)))

  pub left_now : (k : DiskKeeping D) (disk : D) (row : Row) → disk ≡ k.log.disk → StandsFor seen may_leave row k.log → IsUncut row.owing → Tells (seen k.log.disk).bytes (may_leave k.log.disk)
      → Tells (seen k.log.disk).bytes (λ _. (image : List ℕ) → may_leave disk image → Opens row image) → Tells (kept_on seen k).content (λ c. (image : List ℕ) → may_leave disk image → LeavesWhole c.log image)
  left_now k disk row same s uncut leaves opens =
      log_at seen may_leave (λ l. (image : List ℕ) → may_leave disk image → LeavesWhole l image) k row s leaves
      (tells_from (seen k.log.disk).bytes (λ _. (image : List ℕ) → may_leave disk image → LeavesWhole row.records image) (λ held told image now.
      whole row image uncut (tells_at (seen k.log.disk).bytes (λ _. (image : List ℕ) → may_leave disk image → Opens row image) held told opens image now)))

  -- no call on the disk
  pub quiet_left : (moment : D → ℕ) (left_since : D → ℕ → List ℕ → Type 0) (k : DiskKeeping D) (new : D) (row : Row) → new ≡ k.log.disk → StandsFor seen may_leave row k.log → IsUncut row.owing
      → Tells (seen k.log.disk).bytes (may_leave k.log.disk) → LeavesRow seen may_leave k.log k.log.disk → ((image : List ℕ) → left_since k.log.disk (moment k.log.disk) image → may_leave k.log.disk image)
      → Tells (kept_on seen k).content (λ c. LeavesOnly moment left_since k.log.disk new (LeavesWhole c.log))
  quiet_left moment left_since k new row same s uncut leaves left here =
      let disk = k.log.disk in
      rw same
      (crash_left moment left_since k disk row (Opens row) s leaves
      (tells_from (seen disk).bytes (λ _. LeavesOnly moment left_since disk disk (Opens row)) (λ held told.
      started moment left_since disk (Opens row) (λ image now.
      tells_at (seen disk).bytes (λ _. (image : List ℕ) → may_leave disk image → Opens row image) held told (left row s) image (here image now))))
      (λ image opens. whole row image uncut opens))
