-- What a keeper on three disks keeps.
use Rattle.std.specs.Prelude.{◌≡◌, ◌≤◌, ◌⊎◌, ℕ, ◌+◌, ◌-◌, List, [], ◌∷◌, length, take, drop, Option, Some, None, Result, Ok, Err, refl}
use Rattle.std.specs.Option.{option_map}
use Rattle.std.specs.Coded.{Coded, code_by, coded×, coded_ℕ}
use Rattle.std.proofs.Common.{arith}
use Rattle.fluid_io.specs.Causes.{HasCause, Tells}
use Rattle.fluid_io.specs.declared.faults.Failed.{Failed as Fault}
use Rattle.fluid_log.specs.declared.fault.KeeperFault.{KeeperFault}
use Rattle.fluid_log.specs.Calls.{IsCaused, RoseAt}
use Rattle.fluid_log.specs.Keeping.{Content, Keeping, HasLengths, IsSized}
use Rattle.fluid_disk.specs.Disk.{Stored, LeavesOnly}
use Rattle.fluid_disk.specs.Files.{Row, Opens, OpensAppending, OpensCutting, Recording, recording_code, StandsFor, AppendsRecord, CutsRecords, IsOpened, StaysFound, LeavesFound}
use Rattle.fluid_disk_keeper.specs.declared.keeper.Disks.{Disks}

abbrev pub Texts : Type 0
Texts = List (List ℕ)

-- the records between a gate and the gates behind it
abbrev pub records_from : ℕ → List ℕ → List ℕ → Texts
records_from gate [] bytes = []
records_from gate (next ∷ gates) bytes = take (next - gate - 5) (drop (gate + 5) bytes) ∷ records_from next gates bytes

-- the records of a file whose gates stand there
abbrev pub records_in : List ℕ → List ℕ → Texts
records_in [] bytes = []
records_in (gate ∷ gates) bytes = records_from gate gates bytes

-- those of a file, where its disk tells its bytes
abbrev pub told_records : {D : Type 0} → (D → Stored) → Recording D → Option Texts
told_records seen file = option_map (records_in file.gates) (seen file.disk).bytes

-- the content, where all three files tell theirs
abbrev pub together : Option Texts → Option Texts → Option Texts → Option Content
together None deltas checkpoints = None
together (Some log) None checkpoints = None
together (Some log) (Some deltas) None = None
together (Some log) (Some deltas) (Some checkpoints) = Some (record { log = log; deltas = deltas; checkpoints = checkpoints })

-- a keeper: its three files, and its counts
pub record DiskKeeping (D : Type 0) : Type 0 where
  pub log : Recording D
  pub deltas : Recording D
  pub checkpoints : Recording D
  pub faults : ℕ
  pub reads : ℕ

abbrev pub disk_keeping_code : (D : Type 0) → Coded D → Coded (DiskKeeping D)
disk_keeping_code D disk =
    let file = recording_code D disk in
    code_by (Recording D × (Recording D × (Recording D × (ℕ × ℕ)))) (coded× file (coded× file (coded× file (coded× coded_ℕ coded_ℕ))))
    (λ k. (k.log, (k.deltas, (k.checkpoints, (k.faults, k.reads)))))
    (λ p. record { log = p.0; deltas = p.1.0; checkpoints = p.1.1.0; faults = p.1.1.1.0; reads = p.1.1.1.1 }) (λ _. refl)

-- how it is seen as a keeper
abbrev pub kept_on : {D : Type 0} → (D → Stored) → DiskKeeping D → Keeping
kept_on seen k = record {
  content = together (told_records seen k.log) (told_records seen k.deltas) (told_records seen k.checkpoints);
  records = length k.log.gates - 1;
  deltas = length k.deltas.gates - 1;
  checkpoints = length k.checkpoints.gates - 1;
  faults = k.faults;
  reads = k.reads;
}

-- ---- the lengths are those of the content

length-from : (gate : ℕ) (gates bytes : List ℕ) → length (records_from gate gates bytes) ≡ length gates
length-from gate [] bytes = refl
length-from gate (next ∷ gates) bytes = omega (arith, length-from next gates bytes)

length-in : (gates bytes : List ℕ) → length gates - 1 ≡ length (records_in gates bytes)
length-in [] bytes = refl
length-in (gate ∷ gates) bytes = omega (arith, length-from gate gates bytes)

sized_by : (log deltas checkpoints : List ℕ) (l d c : Option (List ℕ)) (faults reads : ℕ)
    → let content = together (option_map (records_in log) l) (option_map (records_in deltas) d) (option_map (records_in checkpoints) c) in
    Tells content (HasLengths (record { content = content; records = length log - 1; deltas = length deltas - 1; checkpoints = length checkpoints - 1; faults = faults; reads = reads }))
sized_by log deltas checkpoints None d c faults reads = tt
sized_by log deltas checkpoints (Some l) None c faults reads = tt
sized_by log deltas checkpoints (Some l) (Some d) None faults reads = tt
sized_by log deltas checkpoints (Some l) (Some d) (Some c) faults reads = record { records = length-in log l; deltas = length-in deltas d; checkpoints = length-in checkpoints c }

pub keeps_lengths : {D : Type 0} (seen : D → Stored) (k : DiskKeeping D) → IsSized (kept_on seen k)
keeps_lengths seen k =
    sized_by k.log.gates k.deltas.gates k.checkpoints.gates (seen k.log.disk).bytes (seen k.deltas.disk).bytes (seen k.checkpoints.disk).bytes k.faults k.reads

-- ---- opening

-- The three files were opened, and nothing was counted yet. Where all disks tell their bytes, the content is what was found.
pub record AreOpened {D : Type 0} (seen : D → Stored) (may_leave : D → List ℕ → Type 0) (disks : Disks D) (k : DiskKeeping D) : Type 0 where
  pub log_is : IsOpened seen may_leave (seen disks.log) k.log
  pub deltas_are : IsOpened seen may_leave (seen disks.deltas) k.deltas
  pub checkpoints_are : IsOpened seen may_leave (seen disks.checkpoints) k.checkpoints
  pub content : Tells (kept_on seen k).content (λ c. (c.log ≡ log_is.records) × ((c.deltas ≡ deltas_are.records) × (c.checkpoints ≡ checkpoints_are.records)))
  pub no_faults : k.faults ≡ 0
  pub no_reads : k.reads ≡ 0

-- a disk came back: its count of faults never falls, and opening finds in it what it would have found
pub record IsLeft (old new : Stored) : Type 0 where
  pub later : old.faults ≤ new.faults
  pub finds : StaysFound old new

-- The disks came back from an opening that failed: the count of faults of one of them rose, or memory is wanting.
pub record AreGivenBack {D : Type 0} (seen : D → Stored) (old new : Disks D) (fault : KeeperFault) : Type 0 where
  pub log : IsLeft (seen old.log) (seen new.log)
  pub deltas : IsLeft (seen old.deltas) (seen new.deltas)
  pub checkpoints : IsLeft (seen old.checkpoints) (seen new.checkpoints)
  pub cause : RoseAt (seen old.log).faults (seen new.log).faults fault
      ⊎ (RoseAt (seen old.deltas).faults (seen new.deltas).faults fault
      ⊎ RoseAt (seen old.checkpoints).faults (seen new.checkpoints).faults fault)

-- a crash at any moment leaves on each disk what it might have left before, or an image in which opening finds the same
pub record AllLeaveFound {D : Type 0} (seen : D → Stored) (may_leave : D → List ℕ → Type 0) (moment : D → ℕ) (left_since : D → ℕ → List ℕ → Type 0) (old new : Disks D) : Type 0 where
  pub log : LeavesFound seen may_leave moment left_since old.log new.log
  pub deltas : LeavesFound seen may_leave moment left_since old.deltas new.deltas
  pub checkpoints : LeavesFound seen may_leave moment left_since old.checkpoints new.checkpoints

-- the disks of a keeper
abbrev pub disks_under : {D : Type 0} → DiskKeeping D → Disks D
disks_under k = record { log = k.log.disk; deltas = k.deltas.disk; checkpoints = k.checkpoints.disk }

-- a crash now leaves of this disk what the file on it stands for, and what is in progress or owed of it allows
abbrev pub LeavesRow : {D : Type 0} → (D → Stored) → (D → List ℕ → Type 0) → Recording D → D → Type 0
LeavesRow seen may_leave file disk =
    (row : Row) → StandsFor seen may_leave row file → Tells (seen file.disk).bytes (λ _. (image : List ℕ) → may_leave disk image → Opens row image)

-- ---- the calls of a keeper on its files

-- what a call did, whatever it gave
abbrev pub done : {A : Type 0} → Result A KeeperFault → Result (Unit {0}) KeeperFault
done (Ok answer) = Ok tt
done (Err fault) = Err fault

module _ {D : Type 0} (seen : D → Stored) (may_leave : D → List ℕ → Type 0) (moment : D → ℕ) (left_since : D → ℕ → List ℕ → Type 0) where
  -- a file in an append: `Failed` comes only where the disk's count rose; what the file stands for behind it; and what a crash at
  -- any moment of it leaves
  pub record AppendsTo (bytes : List ℕ) (old new : Recording D) (result : Result (Unit {0}) KeeperFault) : Type 0 where
    pub cause : IsCaused (seen old.disk).faults (seen new.disk).faults result
    pub does : (row : Row) → StandsFor seen may_leave row old → AppendsRecord seen may_leave row bytes new result
    pub crash : (row : Row) → StandsFor seen may_leave row old → Tells (seen old.disk).bytes (λ _. LeavesOnly moment left_since old.disk new.disk (OpensAppending row bytes))

  -- a file in a cut
  pub record CutsTo (count : ℕ) (old new : Recording D) (result : Result (Unit {0}) Fault) : Type 0 where
    pub cause : HasCause (seen old.disk).faults (seen new.disk).faults result
    pub does : (row : Row) → StandsFor seen may_leave row old → CutsRecords seen may_leave row count new result
    pub crash : (row : Row) → StandsFor seen may_leave row old → Tells (seen old.disk).bytes (λ _. LeavesOnly moment left_since old.disk new.disk (OpensCutting row count))

  -- a file in a read
  pub record ReadsFrom (old new : Recording D) (result : Result (List ℕ) KeeperFault) : Type 0 where
    pub cause : IsCaused (seen old.disk).faults (seen new.disk).faults result
    pub same : (row : Row) → StandsFor seen may_leave row old → StandsFor seen may_leave row new
    pub crash : (row : Row) → StandsFor seen may_leave row old → Tells (seen old.disk).bytes (λ _. LeavesOnly moment left_since old.disk new.disk (Opens row))

-- the other two files of a keeper aren't touched
abbrev pub LogAlone : {D : Type 0} → DiskKeeping D → DiskKeeping D → Type 0
LogAlone old new = (new.deltas ≡ old.deltas) × (new.checkpoints ≡ old.checkpoints)

abbrev pub DeltasAlone : {D : Type 0} → DiskKeeping D → DiskKeeping D → Type 0
DeltasAlone old new = (new.log ≡ old.log) × (new.checkpoints ≡ old.checkpoints)

abbrev pub CheckpointsAlone : {D : Type 0} → DiskKeeping D → DiskKeeping D → Type 0
CheckpointsAlone old new = (new.log ≡ old.log) × (new.deltas ≡ old.deltas)
