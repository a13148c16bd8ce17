-- What a keeper on disks keeps, by the rows of its files.
use Rattle.std.proofs.Common.{◌≡◌, ◌⊎◌, inl, inr, ℕ, suc, ◌+◌, ◌-◌, ◌<◌, ◌≤◌, List, [], ◌∷◌, ◌++◌, length, get_or, take, drop, refl, sym, ◌∙◌, ap, subst, arith, length-append}
use Rattle.std.specs.Prelude.{Option, Some, None, is_some, Err, slice_get}
use Rattle.std.specs.Option.{option_map}
use Rattle.std.proofs.lemmas.Bool.{false≢true}
use Rattle.std.proofs.lemmas.List.{length-take-le}
use Rattle.fluid_io.specs.Causes.{Tells}
use Rattle.fluid_io.specs.declared.faults.Failed.{Failed as Fault}
use Rattle.fluid_log.specs.declared.fault.KeeperFault.{KeeperFault}
use Rattle.fluid_log.specs.declared.fault.KeeperFault.TheVariants.{Failed, NoMemory}
use Rattle.fluid_log.specs.Keeping.{Content}
use Rattle.fluid_log.specs.Calls.{RoseAt, KeepsSame, with_record, with_delta, with_checkpoint, cut_to, AppendDoes}
use Rattle.fluid_disk.specs.Disk.{Stored, LeavesOnly}
use Rattle.fluid_disk.specs.Records.{spelled, gates_from, gate_before}
use Rattle.fluid_disk.specs.Files.{Row, Opens, IsOpened, settled, appending, cutting, Recording, StandsFor, AppendsRecord, CutsRecords, StaysFound, IsGivenBack, FindsSame, LeavesFound}
use Rattle.fluid_disk_keeper.specs.Keepers.{Texts, records_from, records_in, told_records, together, DiskKeeping, kept_on, AreOpened, IsLeft, LeavesRow}
use Rattle.fluid_disk_keeper.specs.declared.keeper.Disks.{Disks}
use Rattle.fluid_disk.proofs.Endings.{finds_short}
use Rattle.fluid_disk.proofs.Kept.{there_any}
use Rattle.fluid_disk.proofs.Moments.{started}
use Rattle.fluid_disk.proofs.Rows.{length_first, length_gates}
use Rattle.fluid_disk.proofs.Standing.{tells_at, tells_from, same_told}

-- ---- the records between the gates

first_in : (gate next : ℕ) (records : List (List ℕ)) (bytes : List ℕ)
    → records_from gate (gates_from next records) bytes ≡ take (next - gate - 5) (drop (gate + 5) bytes) ∷ records_in (gates_from next records) bytes
first_in gate next [] bytes = refl
first_in gate next (first ∷ records) bytes = refl

records_are : (at : ℕ) (records : List (List ℕ)) (bytes : List ℕ)
    → ((n : ℕ) → n < length records → take (length (get_or records n [])) (drop (at + gate_before n records + 5) bytes) ≡ get_or records n [])
    → records_in (gates_from at records) bytes ≡ records
records_are at [] bytes there = refl
records_are at (first ∷ records) bytes there =
    let next = at + 5 + length first in
    let size : next - at - 5 ≡ length first = omega arith in
    let place : at + 5 ≡ at + gate_before 0 (first ∷ records) + 5 = omega arith in
    let one : take (next - at - 5) (drop (at + 5) bytes) ≡ first =
    ap (λ (n : ℕ). take n (drop (at + 5) bytes)) size ∙ ap (λ (p : ℕ). take (length first) (drop p bytes)) place ∙ there 0 (omega arith) in
    let rest = records_are next records bytes (λ n lt.
    let here : next + gate_before n records + 5 ≡ at + gate_before (suc n) (first ∷ records) + 5 = omega (arith, length_first first (take n records)) in
    ap (λ (p : ℕ). take (length (get_or records n [])) (drop p bytes)) here ∙ there (suc n) (omega (arith, lt))) in
    first_in at next records bytes ∙ ap (λ (l : List ℕ). l ∷ records_in (gates_from next records) bytes) one ∙ ap (λ (l : List (List ℕ)). first ∷ l) rest

-- ---- what is told

-- a list is told, or nothing
abbrev pub told_as : {A : Type 0} → Option (List ℕ) → A → Option A
told_as told value = option_map (λ _. value) told

told_same : {A : Type 0} (f : List ℕ → A) (told : Option (List ℕ)) (value : A) → ((bytes : List ℕ) → told ≡ Some bytes → f bytes ≡ value) → option_map f told ≡ told_as told value
told_same f None value is = refl
told_same f (Some bytes) value is = ap Some (is bytes refl)

told_mapped : {A B : Type 0} (f : A → B) (old new : Option (List ℕ)) (before : A) (after : B) → is_some new ≡ is_some old → after ≡ f before → told_as new after ≡ option_map f (told_as old before)
told_mapped f None None before after same is = refl
told_mapped f None (Some new) before after same is = absurd (false≢true (sym same))
told_mapped f (Some old) None before after same is = absurd (false≢true same)
told_mapped f (Some old) (Some new) before after same is = ap Some is

told_kept : {A : Type 0} (old new : Option (List ℕ)) (before after : A) → is_some new ≡ is_some old → after ≡ before → told_as new after ≡ told_as old before
told_kept None None before after same is = refl
told_kept None (Some new) before after same is = absurd (false≢true (sym same))
told_kept (Some old) None before after same is = absurd (false≢true same)
told_kept (Some old) (Some new) before after same is = ap Some is

-- ---- the three files together

with_log : (f : Texts → Texts) (l d c : Option Texts) → together (option_map f l) d c ≡ option_map (λ (k : Content). record k { log = f k.log }) (together l d c)
with_log f None d c = refl
with_log f (Some l) None c = refl
with_log f (Some l) (Some d) None = refl
with_log f (Some l) (Some d) (Some c) = refl

with_deltas : (f : Texts → Texts) (l d c : Option Texts) → together l (option_map f d) c ≡ option_map (λ (k : Content). record k { deltas = f k.deltas }) (together l d c)
with_deltas f None d c = refl
with_deltas f (Some l) None c = refl
with_deltas f (Some l) (Some d) None = refl
with_deltas f (Some l) (Some d) (Some c) = refl

with_checkpoints : (f : Texts → Texts) (l d c : Option Texts) → together l d (option_map f c) ≡ option_map (λ (k : Content). record k { checkpoints = f k.checkpoints }) (together l d c)
with_checkpoints f None d c = refl
with_checkpoints f (Some l) None c = refl
with_checkpoints f (Some l) (Some d) None = refl
with_checkpoints f (Some l) (Some d) (Some c) = refl

in_log : (o : Option (List ℕ)) (records : Texts) (d c : Option Texts) (P : Texts → Type 0) → Tells o (λ _. P records) → Tells (together (told_as o records) d c) (λ k. P k.log)
in_log None records d c P given = tt
in_log (Some bytes) records None c P given = tt
in_log (Some bytes) records (Some d) None P given = tt
in_log (Some bytes) records (Some d) (Some c) P given = given

in_deltas : (o : Option (List ℕ)) (records : Texts) (l c : Option Texts) (P : Texts → Type 0) → Tells o (λ _. P records) → Tells (together l (told_as o records) c) (λ k. P k.deltas)
in_deltas o records None c P given = tt
in_deltas None records (Some l) c P given = tt
in_deltas (Some bytes) records (Some l) None P given = tt
in_deltas (Some bytes) records (Some l) (Some c) P given = given

in_checkpoints : (o : Option (List ℕ)) (records : Texts) (l d : Option Texts) (P : Texts → Type 0) → Tells o (λ _. P records) → Tells (together l d (told_as o records)) (λ k. P k.checkpoints)
in_checkpoints o records None d P given = tt
in_checkpoints o records (Some l) None P given = tt
in_checkpoints None records (Some l) (Some d) P given = tt
in_checkpoints (Some bytes) records (Some l) (Some d) P given = given

-- ---- a file before a call and behind it

-- the call made f of its list, which has n records then
pub record Became {D : Type 0} (seen : D → Stored) (f : Texts → Texts) (n : ℕ) (old new : Recording D) : Type 0 where
  pub told : told_records seen new ≡ option_map f (told_records seen old)
  pub count : length new.gates - 1 ≡ n

-- the call left the list
pub record Stayed {D : Type 0} (seen : D → Stored) (old new : Recording D) : Type 0 where
  pub told : told_records seen new ≡ told_records seen old
  pub count : length new.gates - 1 ≡ length old.gates - 1

module _ {D : Type 0} (seen : D → Stored) (may_leave : D → List ℕ → Type 0) where
  pub told_is : (row : Row) (file : Recording D) → StandsFor seen may_leave row file → Tells (seen file.disk).bytes (may_leave file.disk)
      → told_records seen file ≡ told_as (seen file.disk).bytes row.records
  told_is row file s leaves = told_same (records_in file.gates) (seen file.disk).bytes row.records (λ held told.
      let kept = tells_at (seen file.disk).bytes _ held told s.keeps held (tells_at (seen file.disk).bytes (may_leave file.disk) held told leaves) in
      ap (λ (l : List ℕ). records_in l held) s.gates_are
      ∙ records_are 0 row.records held (λ n lt.
      let here : 0 + gate_before n row.records + 5 ≡ gate_before n row.records + 5 = omega arith in
      ap (λ (p : ℕ). take (length (get_or row.records n [])) (drop p held)) here ∙ there_any n row.records row.owing held lt kept))

  pub became : (f : Texts → Texts) (n : ℕ) (row after : Row) (old new : Recording D) → StandsFor seen may_leave row old → StandsFor seen may_leave after new
      → Tells (seen old.disk).bytes (may_leave old.disk) → Tells (seen new.disk).bytes (may_leave new.disk) → is_some (seen new.disk).bytes ≡ is_some (seen old.disk).bytes
      → after.records ≡ f row.records → length after.records ≡ n → Became seen f n old new
  became f n row after old new s t leaves leaves_new same is count = record {
    told = told_is after new t leaves_new ∙ told_mapped f (seen old.disk).bytes (seen new.disk).bytes row.records after.records same is
        ∙ ap (option_map f) (sym (told_is row old s leaves));
    count = omega (arith, ap length t.gates_are, length_gates 0 after.records, count);
  }

  pub count_is : (row : Row) (file : Recording D) → StandsFor seen may_leave row file → length file.gates - 1 ≡ length row.records
  count_is row file s = omega (arith, ap length s.gates_are, length_gates 0 row.records)

  pub stayed : (row after : Row) (old new : Recording D) → StandsFor seen may_leave row old → StandsFor seen may_leave after new
      → Tells (seen old.disk).bytes (may_leave old.disk) → Tells (seen new.disk).bytes (may_leave new.disk) → is_some (seen new.disk).bytes ≡ is_some (seen old.disk).bytes
      → after.records ≡ row.records → Stayed seen old new
  stayed row after old new s t leaves leaves_new same is = record {
    told = told_is after new t leaves_new ∙ told_kept (seen old.disk).bytes (seen new.disk).bytes row.records after.records same is ∙ sym (told_is row old s leaves);
    count = count_is after new t ∙ ap length is ∙ sym (count_is row old s);
  }

  -- ---- the calls of a file

  left_by_append : (row : Row) (bytes : List ℕ) (file : Recording D) (fault : KeeperFault) → AppendsRecord seen may_leave row bytes file (Err fault)
      → (after : Row) × StandsFor seen may_leave after file × (after.records ≡ row.records)
  left_by_append row bytes file fault (inl s) = (row, s, refl)
  left_by_append row bytes file fault (inr failed) = (appending row.records bytes, failed.1, refl)

  left_by_cut : (row : Row) (count : ℕ) (file : Recording D) (fault : Fault) → CutsRecords seen may_leave row count file (Err fault)
      → (after : Row) × StandsFor seen may_leave after file × (after.records ≡ row.records)
  left_by_cut row count file fault (inl s) = (row, s, refl)
  left_by_cut row count file fault (inr s) = (cutting row.records count, s, refl)

  pub grew : (row : Row) (bytes : List ℕ) (old new : Recording D) → StandsFor seen may_leave row old → StandsFor seen may_leave (settled (row.records ++ bytes ∷ [])) new
      → Tells (seen old.disk).bytes (may_leave old.disk) → Tells (seen new.disk).bytes (may_leave new.disk) → is_some (seen new.disk).bytes ≡ is_some (seen old.disk).bytes
      → Became seen (λ l. l ++ bytes ∷ []) (length old.gates - 1 + 1) old new
  grew row bytes old new s t leaves leaves_new same =
      became (λ l. l ++ bytes ∷ []) (length old.gates - 1 + 1) row (settled (row.records ++ bytes ∷ [])) old new s t leaves leaves_new same refl
      (omega (arith, length-append row.records (bytes ∷ []), count_is row old s))

  pub not_grown : (row : Row) (bytes : List ℕ) (old new : Recording D) (fault : KeeperFault) → StandsFor seen may_leave row old → AppendsRecord seen may_leave row bytes new (Err fault)
      → Tells (seen old.disk).bytes (may_leave old.disk) → Tells (seen new.disk).bytes (may_leave new.disk) → is_some (seen new.disk).bytes ≡ is_some (seen old.disk).bytes
      → Stayed seen old new
  not_grown row bytes old new fault s does leaves leaves_new same =
      let left = left_by_append row bytes new fault does in stayed row left.0 old new s left.1 leaves leaves_new same left.2

  pub shrank : (row : Row) (count : ℕ) (old new : Recording D) → StandsFor seen may_leave row old → StandsFor seen may_leave (settled (take count row.records)) new
      → Tells (seen old.disk).bytes (may_leave old.disk) → Tells (seen new.disk).bytes (may_leave new.disk) → is_some (seen new.disk).bytes ≡ is_some (seen old.disk).bytes
      → count ≤ length old.gates - 1 → Became seen (λ l. take count l) count old new
  shrank row count old new s t leaves leaves_new same within =
      became (λ l. take count l) count row (settled (take count row.records)) old new s t leaves leaves_new same refl
      (length-take-le count row.records (omega (arith, within, count_is row old s)))

  pub not_shrunk : (row : Row) (count : ℕ) (old new : Recording D) (fault : Fault) → StandsFor seen may_leave row old → CutsRecords seen may_leave row count new (Err fault)
      → Tells (seen old.disk).bytes (may_leave old.disk) → Tells (seen new.disk).bytes (may_leave new.disk) → is_some (seen new.disk).bytes ≡ is_some (seen old.disk).bytes
      → Stayed seen old new
  not_shrunk row count old new fault s does leaves leaves_new same =
      let left = left_by_cut row count new fault does in stayed row left.0 old new s left.1 leaves leaves_new same left.2

  -- ---- the calls of a keeper

  pub log_same : (k : DiskKeeping D) (file : Recording D) (faults reads : ℕ) → Stayed seen k.log file
      → KeepsSame (kept_on seen k) (kept_on seen (record { log = file; deltas = k.deltas; checkpoints = k.checkpoints; faults = faults; reads = reads }))
  log_same k file faults reads is = record {
    content = ap (λ (l : Option Texts). together l (told_records seen k.deltas) (told_records seen k.checkpoints)) is.told;
    records = is.count;
    deltas = refl;
    checkpoints = refl;
  }

  pub append_failed : (k : DiskKeeping D) (file : Recording D) (faults reads : ℕ) (bytes : List ℕ) (fault : KeeperFault) → Stayed seen k.log file
      → AppendDoes bytes (kept_on seen k) (kept_on seen (record { log = file; deltas = k.deltas; checkpoints = k.checkpoints; faults = faults; reads = reads })) (Err fault)
  append_failed k file faults reads bytes Failed is = inl (log_same k file faults reads is)
  append_failed k file faults reads bytes NoMemory is = log_same k file faults reads is

  pub append_failed_over : (k old : DiskKeeping D) (file : Recording D) (faults reads : ℕ) (bytes : List ℕ) (fault : KeeperFault) → k ≡ old → Stayed seen k.log file
      → AppendDoes bytes (kept_on seen old) (kept_on seen (record { log = file; deltas = k.deltas; checkpoints = k.checkpoints; faults = faults; reads = reads })) (Err fault)
  append_failed_over k old file faults reads bytes fault is same =
      subst (λ (o : DiskKeeping D). AppendDoes bytes (kept_on seen o) (kept_on seen (record { log = file; deltas = k.deltas; checkpoints = k.checkpoints; faults = faults; reads = reads })) (Err fault)) is
      (append_failed k file faults reads bytes fault same)

  pub log_grew : (k : DiskKeeping D) (file : Recording D) (faults reads : ℕ) (bytes : List ℕ) → Became seen (λ l. l ++ bytes ∷ []) (length k.log.gates - 1 + 1) k.log file
      → KeepsSame (with_record bytes (kept_on seen k)) (kept_on seen (record { log = file; deltas = k.deltas; checkpoints = k.checkpoints; faults = faults; reads = reads }))
  log_grew k file faults reads bytes is = record {
    content = ap (λ (l : Option Texts). together l (told_records seen k.deltas) (told_records seen k.checkpoints)) is.told
        ∙ with_log (λ l. l ++ bytes ∷ []) (told_records seen k.log) (told_records seen k.deltas) (told_records seen k.checkpoints);
    records = is.count;
    deltas = refl;
    checkpoints = refl;
  }

  pub log_cut : (k : DiskKeeping D) (file : Recording D) (faults reads count : ℕ) → Became seen (λ l. take count l) count k.log file
      → KeepsSame (cut_to count (kept_on seen k)) (kept_on seen (record { log = file; deltas = k.deltas; checkpoints = k.checkpoints; faults = faults; reads = reads }))
  log_cut k file faults reads count is = record {
    content = ap (λ (l : Option Texts). together l (told_records seen k.deltas) (told_records seen k.checkpoints)) is.told
        ∙ with_log (λ l. take count l) (told_records seen k.log) (told_records seen k.deltas) (told_records seen k.checkpoints);
    records = is.count;
    deltas = refl;
    checkpoints = refl;
  }

  pub deltas_same : (k : DiskKeeping D) (file : Recording D) (faults reads : ℕ) → Stayed seen k.deltas file
      → KeepsSame (kept_on seen k) (kept_on seen (record { log = k.log; deltas = file; checkpoints = k.checkpoints; faults = faults; reads = reads }))
  deltas_same k file faults reads is = record {
    content = ap (λ (d : Option Texts). together (told_records seen k.log) d (told_records seen k.checkpoints)) is.told;
    records = refl;
    deltas = is.count;
    checkpoints = refl;
  }

  pub deltas_grew : (k : DiskKeeping D) (file : Recording D) (faults reads : ℕ) (bytes : List ℕ) → Became seen (λ l. l ++ bytes ∷ []) (length k.deltas.gates - 1 + 1) k.deltas file
      → KeepsSame (with_delta bytes (kept_on seen k)) (kept_on seen (record { log = k.log; deltas = file; checkpoints = k.checkpoints; faults = faults; reads = reads }))
  deltas_grew k file faults reads bytes is = record {
    content = ap (λ (d : Option Texts). together (told_records seen k.log) d (told_records seen k.checkpoints)) is.told
        ∙ with_deltas (λ l. l ++ bytes ∷ []) (told_records seen k.log) (told_records seen k.deltas) (told_records seen k.checkpoints);
    records = refl;
    deltas = is.count;
    checkpoints = refl;
  }

  pub checkpoints_same : (k : DiskKeeping D) (file : Recording D) (faults reads : ℕ) → Stayed seen k.checkpoints file
      → KeepsSame (kept_on seen k) (kept_on seen (record { log = k.log; deltas = k.deltas; checkpoints = file; faults = faults; reads = reads }))
  checkpoints_same k file faults reads is = record {
    content = ap (λ (c : Option Texts). together (told_records seen k.log) (told_records seen k.deltas) c) is.told;
    records = refl;
    deltas = refl;
    checkpoints = is.count;
  }

  pub checkpoints_grew : (k : DiskKeeping D) (file : Recording D) (faults reads : ℕ) (bytes : List ℕ) → Became seen (λ l. l ++ bytes ∷ []) (length k.checkpoints.gates - 1 + 1) k.checkpoints file
      → KeepsSame (with_checkpoint bytes (kept_on seen k)) (kept_on seen (record { log = k.log; deltas = k.deltas; checkpoints = file; faults = faults; reads = reads }))
  checkpoints_grew k file faults reads bytes is = record {
    content = ap (λ (c : Option Texts). together (told_records seen k.log) (told_records seen k.deltas) c) is.told
        ∙ with_checkpoints (λ l. l ++ bytes ∷ []) (told_records seen k.log) (told_records seen k.deltas) (told_records seen k.checkpoints);
    records = refl;
    deltas = refl;
    checkpoints = is.count;
  }

  -- ---- the log

  -- what holds of a file's list holds of the log that is told
  pub log_at : (P : Texts → Type 0) (k : DiskKeeping D) (row : Row) → StandsFor seen may_leave row k.log → Tells (seen k.log.disk).bytes (may_leave k.log.disk)
      → Tells (seen k.log.disk).bytes (λ _. P row.records) → Tells (kept_on seen k).content (λ c. P c.log)
  log_at P k row s leaves given =
      subst (λ (l : Option Texts). Tells (together l (told_records seen k.deltas) (told_records seen k.checkpoints)) (λ c. P c.log)) (sym (told_is row k.log s leaves))
      (in_log (seen k.log.disk).bytes row.records (told_records seen k.deltas) (told_records seen k.checkpoints) P given)

  -- ---- what is given

  pub gives_log : (k : DiskKeeping D) (row : Row) (place : ℕ) (bytes : List ℕ) → StandsFor seen may_leave row k.log → Tells (seen k.log.disk).bytes (may_leave k.log.disk)
      → Tells (seen k.log.disk).bytes (λ _. slice_get row.records place ≡ Some bytes) → Tells (kept_on seen k).content (λ c. slice_get c.log place ≡ Some bytes)
  gives_log k row place bytes s leaves given = log_at (λ l. slice_get l place ≡ Some bytes) k row s leaves given

  pub gives_deltas : (k : DiskKeeping D) (row : Row) (place : ℕ) (bytes : List ℕ) → StandsFor seen may_leave row k.deltas → Tells (seen k.deltas.disk).bytes (may_leave k.deltas.disk)
      → Tells (seen k.deltas.disk).bytes (λ _. slice_get row.records place ≡ Some bytes) → Tells (kept_on seen k).content (λ c. slice_get c.deltas place ≡ Some bytes)
  gives_deltas k row place bytes s leaves given =
      subst (λ (l : Option Texts). Tells (together (told_records seen k.log) l (told_records seen k.checkpoints)) (λ c. slice_get c.deltas place ≡ Some bytes)) (sym (told_is row k.deltas s leaves))
      (in_deltas (seen k.deltas.disk).bytes row.records (told_records seen k.log) (told_records seen k.checkpoints) (λ l. slice_get l place ≡ Some bytes) given)

  pub gives_checkpoints : (k : DiskKeeping D) (row : Row) (place : ℕ) (bytes : List ℕ) → StandsFor seen may_leave row k.checkpoints → Tells (seen k.checkpoints.disk).bytes (may_leave k.checkpoints.disk)
      → Tells (seen k.checkpoints.disk).bytes (λ _. slice_get row.records place ≡ Some bytes) → Tells (kept_on seen k).content (λ c. slice_get c.checkpoints place ≡ Some bytes)
  gives_checkpoints k row place bytes s leaves given =
      subst (λ (l : Option Texts). Tells (together (told_records seen k.log) (told_records seen k.deltas) l) (λ c. slice_get c.checkpoints place ≡ Some bytes)) (sym (told_is row k.checkpoints s leaves))
      (in_checkpoints (seen k.checkpoints.disk).bytes row.records (told_records seen k.log) (told_records seen k.deltas) (λ l. slice_get l place ≡ Some bytes) given)

  -- ---- opening

  same_content : (l d c : Option (List ℕ)) (log deltas checkpoints : Texts) → Tells (together (told_as l log) (told_as d deltas) (told_as c checkpoints)) (λ k. (k.log ≡ log) × ((k.deltas ≡ deltas) × (k.checkpoints ≡ checkpoints)))
  same_content None d c log deltas checkpoints = tt
  same_content (Some l) None c log deltas checkpoints = tt
  same_content (Some l) (Some d) None log deltas checkpoints = tt
  same_content (Some l) (Some d) (Some c) log deltas checkpoints = (refl, (refl, refl))

  pub opened : (disks : Disks D) (k : DiskKeeping D) → IsOpened seen may_leave (seen disks.log) k.log → IsOpened seen may_leave (seen disks.deltas) k.deltas → IsOpened seen may_leave (seen disks.checkpoints) k.checkpoints
      → ((disk : D) → Tells (seen disk).bytes (may_leave disk)) → k.faults ≡ 0 → k.reads ≡ 0 → AreOpened seen may_leave disks k
  opened disks k l d c leaves faults reads = record {
    log_is = l;
    deltas_are = d;
    checkpoints_are = c;
    content =
        rw (told_is (settled l.records) k.log l.stands (leaves k.log.disk), told_is (settled d.records) k.deltas d.stands (leaves k.deltas.disk), told_is (settled c.records) k.checkpoints c.stands (leaves k.checkpoints.disk))
        (same_content (seen k.log.disk).bytes (seen k.deltas.disk).bytes (seen k.checkpoints.disk).bytes l.records d.records c.records);
    no_faults = faults;
    no_reads = reads;
  }

  -- opening found what it finds again
  opened_same : (old : Stored) (file : Recording D) → IsOpened seen may_leave old file → StaysFound old (seen file.disk)
  opened_same old file o = λ before after told then.
      let is : after ≡ spelled o.records ++ 0 ∷ [] = same_told (seen file.disk).bytes after (spelled o.records ++ 0 ∷ []) then (o.bytes before told) in
      inr (o.records, o.found before told, finds_short o.records after (0 ∷ []) o.stands.short is (omega arith))

  -- a file that was opened and closed
  pub left_opened : (old new : D) (file : Recording D) → new ≡ file.disk → IsOpened seen may_leave (seen old) file → IsLeft (seen old) (seen new)
  left_opened old new file same o = rw same (record { later = o.later; finds = opened_same (seen old) file o })

  -- a disk that wasn't touched
  pub untouched : (old new : D) → new ≡ old → IsLeft (seen old) (seen new)
  untouched old new same = rw same (record { later = omega arith; finds = λ before after told then. inl (same_told (seen old).bytes after before then told) })

  -- a disk that was given back
  pub given_back : (old back new : D) (fault : KeeperFault) → new ≡ back → IsGivenBack (seen old) (seen back) fault → IsLeft (seen old) (seen new)
  given_back old back new fault same b = rw same (record { later = b.later; finds = b.finds })

  -- a file that was closed
  pub closed_row : (file : Recording D) (disk : D) → disk ≡ file.disk → LeavesRow seen may_leave file file.disk → LeavesRow seen may_leave file disk
  closed_row file disk same leaves = subst (λ (d : D). LeavesRow seen may_leave file d) (sym same) leaves

  pub rose_back : (old back new : D) (fault : KeeperFault) → new ≡ back → IsGivenBack (seen old) (seen back) fault → RoseAt (seen old).faults (seen new).faults fault
  rose_back old back new fault same b = rw same b.cause

  module _ (moment : D → ℕ) (left_since : D → ℕ → List ℕ → Type 0) where
    pub quiet : (old new : D) → new ≡ old → ((image : List ℕ) → left_since old (moment old) image → may_leave old image) → LeavesFound seen may_leave moment left_since old new
    quiet old new same here = rw same (tells_from (seen old).bytes (λ held. LeavesOnly moment left_since old old (λ image. may_leave old image ⊎ FindsSame held image)) (λ held told.
        started moment left_since old (λ image. may_leave old image ⊎ FindsSame held image) (λ image left. inl (here image left))))

    pub left_found : (old mid new : D) → new ≡ mid → LeavesFound seen may_leave moment left_since old mid → LeavesFound seen may_leave moment left_since old new
    left_found old mid new same found = rw same found
