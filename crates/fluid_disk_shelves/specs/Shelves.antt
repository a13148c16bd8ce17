-- Shelves over disks: where the keeper of each document is.
use Rattle.std.specs.Prelude.{◌≡◌, ℕ, ◌≤◌, ◌⊎◌, ⊤, List, Bool, Option, Some, None, IfSome, if◌then◌else◌, refl}
use Rattle.std.proofs.Common.{inl, inr}
use Rattle.std.specs.FinMap.{FinMap, get, insert, code}
use Rattle.std.specs.Coded.{Coded, code_by, coded×, coded⊎, coded_ℕ, coded_list}
use Rattle.fluid_log.specs.declared.fault.KeeperFault.{KeeperFault}
use Rattle.fluid_log.specs.declared.fault.KeeperFault.TheVariants.{Failed}
use Rattle.fluid_log.specs.Keeping.{Keeping}
use Rattle.fluid_log.specs.Shelving.{Shelving, byte_order}
use Rattle.fluid_log.specs.Places.{values_where}
use Rattle.fluid_disk.specs.Disk.{Stored}
use Rattle.fluid_disk_keeper.specs.declared.keeper.Disks.{Disks}
use Rattle.fluid_disk_keeper.specs.Keepers.{DiskKeeping, disk_keeping_code, kept_on, AreOpened, AreGivenBack}
use Rattle.fluid_disk_shelves.specs.declared.seat.Seat.{Seat}
use Rattle.fluid_disk_shelves.specs.declared.seat.Seat.TheVariants.{Shut, In, Out}
use Rattle.fluid_disk_shelves.specs.Found.{will_keep}

-- the seat of each document that has disks
abbrev pub Seats : Type 0 → Type 0
Seats D = FinMap byte_order (Seat D)

-- the keeper in a seat; of disks that weren't opened yet the one that opening will make of them
abbrev pub keeper_in : {D : Type 0} → (D → Stored) → Seat D → Option Keeping
keeper_in seen (Shut disks) = Some (will_keep (seen disks.log) (seen disks.deltas) (seen disks.checkpoints))
keeper_in seen (In keeper) = Some (kept_on seen keeper)
keeper_in seen (Out given) = None

-- the count with which the keeper was given that is out
abbrev pub given_with : {D : Type 0} → Seat D → Option ℕ
given_with (Shut disks) = None
given_with (In keeper) = None
given_with (Out given) = Some given

abbrev pub IsNotOut : {D : Type 0} → Option (Seat D) → Type 0
IsNotOut seat = IfSome seat (λ s. given_with s ≡ None)

-- so many faults are at least those of a seat
abbrev pub IsBelow : {D : Type 0} → ℕ → Seat D → Type 0
IsBelow faults (Shut disks) = ⊤
IsBelow faults (In keeper) = keeper.faults ≤ faults
IsBelow faults (Out given) = given ≤ faults

abbrev pub AreBelow : {D : Type 0} → ℕ → Seats D → Type 0
AreBelow faults seats = (name : List ℕ) → IfSome (get seats name) (IsBelow faults)

pub record DiskShelving (D : Type 0) : Type 0 where
  pub seats : Seats D
  -- how many faults were counted
  pub faults : ℕ

abbrev pub seat_code : (D : Type 0) → Coded D → Coded (Seat D)
seat_code D disk =
    code_by ((D × (D × D)) ⊎ (DiskKeeping D ⊎ ℕ)) (coded⊎ (coded× disk (coded× disk disk)) (coded⊎ (disk_keeping_code D disk) coded_ℕ))
    (elim [ Shut disks ↦ inl (disks.log, (disks.deltas, disks.checkpoints)) | In keeper ↦ inr (inl keeper) | Out given ↦ inr (inr given) ])
    (elim [ inl d ↦ Shut (record { log = d.0; deltas = d.1.0; checkpoints = d.1.1 }) | inr (inl keeper) ↦ In keeper | inr (inr given) ↦ Out given ])
    (elim [ Shut disks ↦ refl | In keeper ↦ refl | Out given ↦ refl ])

abbrev pub disk_shelving_code : (D : Type 0) → Coded D → Coded (DiskShelving D)
disk_shelving_code D disk =
    code_by (Seats D × ℕ) (coded× (code (coded_list coded_ℕ) (seat_code D disk)) coded_ℕ) (λ s. (s.seats, s.faults)) (λ p. record { seats = p.0; faults = p.1 }) (λ _. refl)

-- how they are seen as shelves: where disks tell their bytes, the shelves tell their keepers
abbrev pub shelves_on : {D : Type 0} → (D → Stored) → Bool → DiskShelving D → Shelving
shelves_on seen tells s = record {
  held = if tells then Some (values_where (keeper_in seen) s.seats) else None;
  out = values_where given_with s.seats;
  faults = s.faults;
}

-- ---- a keeper is asked for

-- the keeper that is in, or the one that opening made of the disks
abbrev pub IsKeeperOf : {D : Type 0} → (D → Stored) → (D → List ℕ → Type 0) → Option (Seat D) → DiskKeeping D → Type 0
IsKeeperOf seen may_leave None keeper = ⊥
IsKeeperOf seen may_leave (Some (Shut disks)) keeper = AreOpened seen may_leave disks keeper
IsKeeperOf seen may_leave (Some (In held)) keeper = keeper ≡ held
IsKeeperOf seen may_leave (Some (Out given)) keeper = ⊥

-- it was given, and its seat keeps the count of its faults
pub record TakesKeeper {D : Type 0} (seen : D → Stored) (may_leave : D → List ℕ → Type 0) (name : List ℕ) (old new : Seats D) (keeper : DiskKeeping D) : Type 0 where
  pub is : IsKeeperOf seen may_leave (get old name) keeper
  pub out : new ≡ insert old name (Out keeper.faults)

-- opening failed: the disks are back in their seat, and opening finds in them what it would have found
pub record IsNotOpened {D : Type 0} (seen : D → Stored) (name : List ℕ) (old new : Seats D) (before : Disks D) (fault : KeeperFault) : Type 0 where
  pub disks : Disks D
  pub back : new ≡ insert old name (Shut disks)
  pub given : AreGivenBack seen before disks fault

-- why none was given: the document has no disks, or they didn't open
abbrev pub IsRefusedAt : {D : Type 0} → (D → Stored) → List ℕ → Seats D → Seats D → Option (Seat D) → KeeperFault → Type 0
IsRefusedAt seen name old new None fault = (fault ≡ Failed) × (new ≡ old)
IsRefusedAt seen name old new (Some (Shut disks)) fault = IsNotOpened seen name old new disks fault
IsRefusedAt seen name old new (Some (In keeper)) fault = ⊥
IsRefusedAt seen name old new (Some (Out given)) fault = ⊥

abbrev pub IsRefused : {D : Type 0} → (D → Stored) → List ℕ → Seats D → Seats D → KeeperFault → Type 0
IsRefused seen name old new fault = IsRefusedAt seen name old new (get old name) fault
