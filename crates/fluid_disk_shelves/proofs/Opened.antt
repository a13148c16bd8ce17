-- What opening makes of disks is what is seen of them before.
use Rattle.std.proofs.Common.{◌≡◌, ℕ, ◌-◌, List, length, true, Option, Some, None, option_map, is_some, refl, sym, ◌∙◌, ap}
use Rattle.std.proofs.lemmas.Bool.{false≢true}
use Rattle.fluid_io.specs.Causes.{Tells}
use Rattle.fluid_log.specs.Keeping.{Content, Keeping}
use Rattle.fluid_disk.specs.Disk.{Stored}
use Rattle.fluid_disk.specs.Files.{Recording, IsOpened, settled}
use Rattle.fluid_disk_keeper.specs.declared.keeper.Disks.{Disks}
use Rattle.fluid_disk_keeper.specs.Keepers.{Texts, told_records, together, DiskKeeping, kept_on, AreOpened}
use Rattle.fluid_disk_keeper.proofs.Contents.{told_as, told_is, count_is}
use Rattle.fluid_disk_shelves.specs.Found.{found, found_on, count_of, will_keep}
use Rattle.fluid_disk_shelves.proofs.Found.{found_is}

as_found : (old new : Option (List ℕ)) (records : Texts) → is_some new ≡ is_some old → ((held : List ℕ) → old ≡ Some held → found held ≡ records) → told_as new records ≡ option_map found old
as_found None None records same is = refl
as_found None (Some after) records same is = absurd (false≢true (sym same))
as_found (Some before) None records same is = absurd (false≢true same)
as_found (Some before) (Some after) records same is = ap Some (sym (is before refl))

count_found : (old : Option (List ℕ)) (records : Texts) → is_some old ≡ true → ((held : List ℕ) → old ≡ Some held → found held ≡ records) → length records ≡ count_of (option_map found old)
count_found None records tells is = absurd (false≢true tells)
count_found (Some held) records tells is = ap length (sym (is held refl))

same_keeping : (one other : Option Content) (r s d e c f p q x y : ℕ) → one ≡ other → r ≡ s → d ≡ e → c ≡ f → p ≡ q → x ≡ y
    → let first : Keeping = record { content = one; records = r; deltas = d; checkpoints = c; faults = p; reads = x } in
    let second : Keeping = record { content = other; records = s; deltas = e; checkpoints = f; faults = q; reads = y } in
    first ≡ second
same_keeping one other r s d e c f p q x y a b g h i j = cc

module _ {D : Type 0} (seen : D → Stored) (may_leave : D → List ℕ → Type 0) where
  -- a file that was opened has the records that were found
  file_found : (old : Stored) (file : Recording D) → IsOpened seen may_leave old file → Tells (seen file.disk).bytes (may_leave file.disk) → is_some (seen file.disk).bytes ≡ is_some old.bytes
      → told_records seen file ≡ found_on old
  file_found old file o leaves same =
      told_is seen may_leave (settled o.records) file o.stands leaves
      ∙ as_found old.bytes (seen file.disk).bytes o.records same (λ held told. found_is o.records held (o.found held told))

  file_count : (old : Stored) (file : Recording D) → IsOpened seen may_leave old file → is_some old.bytes ≡ true → length file.gates - 1 ≡ count_of (found_on old)
  file_count old file o tells =
      count_is seen may_leave (settled o.records) file o.stands ∙ count_found old.bytes o.records tells (λ held told. found_is o.records held (o.found held told))

  -- a keeper that was opened is the one that was seen in its disks
  pub opened_is : (disks : Disks D) (k : DiskKeeping D) → AreOpened seen may_leave disks k → ((disk : D) → Tells (seen disk).bytes (may_leave disk)) → ((disk : D) → is_some (seen disk).bytes ≡ true)
      → kept_on seen k ≡ will_keep (seen disks.log) (seen disks.deltas) (seen disks.checkpoints)
  opened_is disks k o leaves tells =
      let one = file_found (seen disks.log) k.log o.log_is (leaves k.log.disk) (tells k.log.disk ∙ sym (tells disks.log)) in
      let two = file_found (seen disks.deltas) k.deltas o.deltas_are (leaves k.deltas.disk) (tells k.deltas.disk ∙ sym (tells disks.deltas)) in
      let three = file_found (seen disks.checkpoints) k.checkpoints o.checkpoints_are (leaves k.checkpoints.disk) (tells k.checkpoints.disk ∙ sym (tells disks.checkpoints)) in
      same_keeping _ _ _ _ _ _ _ _ _ _ _ _
      (ap (λ (f : Option Texts). together f (told_records seen k.deltas) (told_records seen k.checkpoints)) one
      ∙ ap (λ (f : Option Texts). together (found_on (seen disks.log)) f (told_records seen k.checkpoints)) two
      ∙ ap (λ (f : Option Texts). together (found_on (seen disks.log)) (found_on (seen disks.deltas)) f) three)
      (file_count (seen disks.log) k.log o.log_is (tells disks.log)) (file_count (seen disks.deltas) k.deltas o.deltas_are (tells disks.deltas))
      (file_count (seen disks.checkpoints) k.checkpoints o.checkpoints_are (tells disks.checkpoints)) o.no_faults o.no_reads
