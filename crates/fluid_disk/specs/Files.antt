-- What a record file stands for, between two calls and inside one.
use Rattle.std.specs.Prelude.{◌≡◌, ◌<◌, ◌≤◌, ◌⊎◌, ⊤, ℕ, ◌+◌, List, [], ◌∷◌, ◌++◌, length, take, drop, Bool, true, Some, Result, Ok, Err, refl}
use Rattle.std.specs.Coded.{Coded, code_by, coded×, coded_ℕ, coded_list}
use Rattle.std.specs.List.{AllByRecursion}
use Rattle.fluid_io.specs.Causes.{Tells}
use Rattle.fluid_io.specs.declared.faults.Failed.{Failed as Fault}
use Rattle.fluid_log.specs.Calls.{RoseAt}
use Rattle.fluid_log.specs.declared.fault.KeeperFault.{KeeperFault}
use Rattle.fluid_log.specs.declared.fault.KeeperFault.TheVariants.{Failed}
use Rattle.fluid_disk.specs.contracts.owed.Owed as debt
use Rattle.fluid_disk.specs.declared.owed.Owed.{Owed}
use Rattle.fluid_disk.specs.declared.owed.Owed.TheVariants as debts
use Rattle.fluid_disk.specs.Disk.{Stored, Torn, IsDurable, StaysAsRead, LeavesOnly}
use Rattle.fluid_disk.specs.Records.{IsShort, spelled, gates_from, gate_before, Finds, IsAtRest}

-- what is in progress or owed
pub data Owing : Type 0 where
  Nothing : Owing
  -- this record is being appended, or its append failed and isn't repaired yet
  Appending : (bytes : List ℕ) → Owing
  -- a cut to so many records, fewer than there are, is being made, or it failed and isn't repaired yet
  Cutting : (count : ℕ) → Owing

-- a file's list, and what is in progress or owed
pub record Row : Type 0 where
  pub records : List (List ℕ)
  pub owing : Owing

-- nothing is owed
abbrev pub settled : List (List ℕ) → Row
settled records = record { records = records; owing = Nothing }

-- this record is being appended, or its append failed
abbrev pub appending : List (List ℕ) → List ℕ → Row
appending records bytes = record { records = records; owing = Appending bytes }

-- a cut to so many records is being made, or it failed
abbrev pub cutting : List (List ℕ) → ℕ → Row
cutting records count = record { records = records; owing = Cutting count }

-- ---- what a crash may leave

-- what opening may find: the file's list, which one record of an append in progress or unrepaired may follow, and of which a
-- cut in progress or owed keeps the records below it
abbrev pub MayFind : List (List ℕ) → Owing → List (List ℕ) → Type 0
MayFind records Nothing found = found ≡ records
MayFind records (Appending bytes) found = (found ≡ records) ⊎ (found ≡ records ++ bytes ∷ [])
MayFind records (Cutting count) found = (found ≡ records) ⊎ (found ≡ take count records)

-- an image of the disk in which opening finds what it may
abbrev pub Opens : Row → List ℕ → Type 0
Opens row image = (found : List (List ℕ)) × Finds found image × MayFind row.records row.owing found

-- ---- what stands on the disk

-- at rest but for the gate before record n, which may have any value
pub record IsAtRestBut (n : ℕ) (records : List (List ℕ)) (image : List ℕ) : Type 0 where
  pub whole : List ℕ
  pub rest : IsAtRest records whole
  pub torn : Torn (gate_before n records) 1 whole image

abbrev pub Keeps : List (List ℕ) → Owing → List ℕ → Type 0
Keeps records Nothing image = IsAtRest records image
Keeps records (Appending bytes) image = IsAtRest records image ⊎ IsAtRest (records ++ bytes ∷ []) image
Keeps records (Cutting count) image = IsAtRestBut count records image

-- what may be owed of these records
abbrev pub MayOwe : List (List ℕ) → Owing → Type 0
MayOwe records Nothing = ⊤
MayOwe records (Appending bytes) = IsShort bytes
MayOwe records (Cutting count) = count < length records

-- what is noted of what is owed
abbrev pub IsNoted : Owing → Owed → Type 0
IsNoted Nothing owed = owed ≡ debts.Nothing
IsNoted (Appending bytes) owed = owed ≡ debts.Append
IsNoted (Cutting count) owed = owed ≡ debts.Cut count

-- a disk, the places of its gates and what is noted as owed stand for a list of records. Of a disk that doesn't tell its
-- bytes the lengths of the records are all that is said
pub record Stands {D : Type 0} (seen : D → Stored) (may_leave : D → List ℕ → Type 0) (row : Row) (disk : D) (gates : List ℕ) (owed : Owed) : Type 0 where
  pub gates_are : gates ≡ gates_from 0 row.records
  pub short : AllByRecursion IsShort row.records
  pub fits : MayOwe row.records row.owing
  pub noted : IsNoted row.owing owed
  pub room : length (spelled row.records) < (seen disk).size
  pub keeps : Tells (seen disk).bytes (λ _. (image : List ℕ) → may_leave disk image → Keeps row.records row.owing image)
  pub durable : row.owing ≡ Nothing → IsDurable (seen disk) (may_leave disk)

-- ---- calls that change nothing of what a read gives

pub record OnlyReads {D : Type 0} (seen : D → Stored) (may_leave : D → List ℕ → Type 0) (moment : D → ℕ) (left_since : D → ℕ → List ℕ → Type 0) (old new : D) : Type 0 where
  pub same : StaysAsRead (seen old) (seen new)
  pub fewer : (image : List ℕ) → may_leave new image → may_leave old image
  pub since : LeavesOnly moment left_since old new (may_leave old)

-- ---- the steps of writing calls

-- a file after an append to a settled one: the record is in its list, or isn't and is to be repaired
abbrev pub AddDoes : {D : Type 0} → (D → Stored) → (D → List ℕ → Type 0) → List (List ℕ) → List ℕ → D → List ℕ → Owed → Result (Unit {0}) Fault → Type 0
AddDoes seen may_leave records bytes disk gates owed (Ok done) = Stands seen may_leave (settled (records ++ bytes ∷ [])) disk gates owed
AddDoes seen may_leave records bytes disk gates owed (Err fault) = Stands seen may_leave (appending records bytes) disk gates owed

-- a file after an append: one that failed left the list as it was, and one that found no memory changed nothing
abbrev pub AppendDoes : {D : Type 0} → (D → Stored) → (D → List ℕ → Type 0) → Row → List ℕ → D → List ℕ → Owed → Result (Unit {0}) KeeperFault → Type 0
AppendDoes seen may_leave row bytes disk gates owed (Ok done) = Stands seen may_leave (settled (row.records ++ bytes ∷ [])) disk gates owed
AppendDoes seen may_leave row bytes disk gates owed (Err fault) =
    Stands seen may_leave row disk gates owed ⊎ ((fault ≡ Failed) × Stands seen may_leave (appending row.records bytes) disk gates owed)

-- a settled file after a gate further in front was closed: the records from there on are gone, or aren't and are to be repaired
abbrev pub DropDoes : {D : Type 0} → (D → Stored) → (D → List ℕ → Type 0) → List (List ℕ) → ℕ → D → List ℕ → Owed → Result (Unit {0}) Fault → Type 0
DropDoes seen may_leave records count disk gates owed (Ok done) = Stands seen may_leave (settled (take count records)) disk gates owed
DropDoes seen may_leave records count disk gates owed (Err fault) = Stands seen may_leave (cutting records count) disk gates owed

-- a file after a cut: one that failed left the list as it was
abbrev pub CutRow : {D : Type 0} → (D → Stored) → (D → List ℕ → Type 0) → Row → ℕ → D → List ℕ → Owed → Result (Unit {0}) Fault → Type 0
CutRow seen may_leave row count disk gates owed (Ok done) = Stands seen may_leave (settled (take count row.records)) disk gates owed
CutRow seen may_leave row count disk gates owed (Err fault) =
    Stands seen may_leave row disk gates owed ⊎ Stands seen may_leave (cutting row.records count) disk gates owed

-- a file after a repair: nothing is owed, or what was
abbrev pub RepairDoes : {D : Type 0} → (D → Stored) → (D → List ℕ → Type 0) → Row → D → List ℕ → Owed → Result (Unit {0}) Fault → Type 0
RepairDoes seen may_leave row disk gates owed (Ok done) = Stands seen may_leave (settled row.records) disk gates owed
RepairDoes seen may_leave row disk gates owed (Err fault) = Stands seen may_leave row disk gates owed

-- a file after the last gate was closed behind an append that failed
abbrev pub CloseDoes : {D : Type 0} → (D → Stored) → (D → List ℕ → Type 0) → List (List ℕ) → List ℕ → D → List ℕ → Result (Unit {0}) Fault → Type 0
CloseDoes seen may_leave records bytes disk gates (Ok done) = Stands seen may_leave (settled records) disk gates debts.Nothing
CloseDoes seen may_leave records bytes disk gates (Err fault) = Stands seen may_leave (appending records bytes) disk gates debts.Append

-- a file after what stands behind its last gate was cut off: where that failed, a crash leaves it at rest
abbrev pub TrimDoes : {D : Type 0} → (D → Stored) → (D → List ℕ → Type 0) → List (List ℕ) → D → List ℕ → Result (Unit {0}) Fault → Type 0
TrimDoes seen may_leave records disk gates (Ok done) = Stands seen may_leave (settled records) disk gates debts.Nothing
TrimDoes seen may_leave records disk gates (Err fault) = (bytes : List ℕ) → IsShort bytes → Stands seen may_leave (appending records bytes) disk gates debts.Append

-- a file after a gate was opened again behind a cut that failed
abbrev pub ReopenDoes : {D : Type 0} → (D → Stored) → (D → List ℕ → Type 0) → List (List ℕ) → ℕ → D → List ℕ → Result (Unit {0}) Fault → Type 0
ReopenDoes seen may_leave records count disk gates (Ok done) = Stands seen may_leave (settled records) disk gates debts.Nothing
ReopenDoes seen may_leave records count disk gates (Err fault) = Stands seen may_leave (cutting records count) disk gates (debts.Cut count)

-- ---- opening

-- the places of the gates of the records that were found
pub record IsWalked (records : List (List ℕ)) (gates : List ℕ) (disk : Stored) : Type 0 where
  pub gates_are : gates ≡ gates_from 0 records
  pub short : AllByRecursion IsShort records
  pub within : length (spelled records) ≤ disk.size
  pub finds : Tells disk.bytes (Finds records)

-- the gate behind the last record reads 0
pub record ReadsClosed (records : List (List ℕ)) (held : List ℕ) : Type 0 where
  pub behind : List ℕ
  pub splits : held ≡ spelled records ++ 0 ∷ behind

-- it does where that is said
abbrev pub EndsBy : Bool → List (List ℕ) → Stored → Type 0
EndsBy closed records disk = Tells disk.bytes (λ held. closed ≡ true → ReadsClosed records held)

-- these bytes stand on the disk from this place on
pub record IsAhead (start : ℕ) (bytes : List ℕ) (disk : Stored) : Type 0 where
  pub within : start + length bytes ≤ disk.size
  pub told : Tells disk.bytes (λ held. bytes ≡ take (length bytes) (drop start held))

-- opening finds in this image what it finds in the bytes that a read gave
abbrev pub FindsSame : List ℕ → List ℕ → Type 0
FindsSame held image = (records : List (List ℕ)) → Finds records held → Finds records image

-- the bytes are what they were, or opening finds the same records in both
abbrev pub FindsAgain : List ℕ → List ℕ → Type 0
FindsAgain before after = (after ≡ before) ⊎ ((records : List (List ℕ)) × Finds records before × Finds records after)

-- the same of a disk, where it tells its bytes
abbrev pub StaysFound : Stored → Stored → Type 0
StaysFound old new = (before after : List ℕ) → old.bytes ≡ Some before → new.bytes ≡ Some after → FindsAgain before after

-- ---- the file itself

-- a record file: its disk, where its gates stand, and what is noted as owed
pub record Recording (D : Type 0) : Type 0 where
  pub disk : D
  pub gates : List ℕ
  pub owed : Owed

abbrev pub recording_code : (D : Type 0) → Coded D → Coded (Recording D)
recording_code D disk = code_by (D × (List ℕ × Owed)) (coded× disk (coded× (coded_list coded_ℕ) debt.the_row.coded)) (λ f. (f.disk, (f.gates, f.owed))) (λ p. record { disk = p.0; gates = p.1.0; owed = p.1.1 }) (λ _. refl)

-- a file stands for a list
abbrev pub StandsFor : {D : Type 0} → (D → Stored) → (D → List ℕ → Type 0) → Row → Recording D → Type 0
StandsFor seen may_leave row file = Stands seen may_leave row file.disk file.gates file.owed

-- a file after an append
abbrev pub AppendsRecord : {D : Type 0} → (D → Stored) → (D → List ℕ → Type 0) → Row → List ℕ → Recording D → Result (Unit {0}) KeeperFault → Type 0
AppendsRecord seen may_leave row bytes file result = AppendDoes seen may_leave row bytes file.disk file.gates file.owed result

-- a file after a cut
abbrev pub CutsRecords : {D : Type 0} → (D → Stored) → (D → List ℕ → Type 0) → Row → ℕ → Recording D → Result (Unit {0}) Fault → Type 0
CutsRecords seen may_leave row count file result = CutRow seen may_leave row count file.disk file.gates file.owed result

-- what was opened: the records that stood there, at rest and nothing owed, and a closed gate behind them
pub record IsOpened {D : Type 0} (seen : D → Stored) (may_leave : D → List ℕ → Type 0) (old : Stored) (file : Recording D) : Type 0 where
  pub records : List (List ℕ)
  pub stands : StandsFor seen may_leave (settled records) file
  pub later : old.faults ≤ (seen file.disk).faults
  pub found : (held : List ℕ) → old.bytes ≡ Some held → Finds records held
  pub bytes : (held : List ℕ) → old.bytes ≡ Some held → (seen file.disk).bytes ≡ Some (spelled records ++ 0 ∷ [])

-- A disk came back from an opening that failed: opening finds in it what it would have found, and its count of faults rose, or memory
-- is wanting.
pub record IsGivenBack (old new : Stored) (fault : KeeperFault) : Type 0 where
  pub later : old.faults ≤ new.faults
  pub cause : RoseAt old.faults new.faults fault
  pub finds : StaysFound old new

-- a crash at any moment of opening leaves what it might have left before, or an image in which opening finds the same
abbrev pub LeavesFound : {D : Type 0} → (D → Stored) → (D → List ℕ → Type 0) → (D → ℕ) → (D → ℕ → List ℕ → Type 0) → D → D → Type 0
LeavesFound seen may_leave moment left_since old new =
    Tells (seen old).bytes (λ held. LeavesOnly moment left_since old new (λ image. may_leave old image ⊎ FindsSame held image))

-- a crash at any moment of an append leaves the list as it was, or with the record behind it
abbrev pub OpensAppending : Row → List ℕ → List ℕ → Type 0
OpensAppending row bytes image = Opens row image ⊎ Opens (appending row.records bytes) image

-- a crash at any moment of a cut leaves the list as it was, or the records below the cut
abbrev pub OpensCutting : Row → ℕ → List ℕ → Type 0
OpensCutting row count image = Opens row image ⊎ Opens (cutting row.records count) image
