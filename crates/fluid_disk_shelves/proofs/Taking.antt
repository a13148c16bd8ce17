-- What taking a keeper out of its seat makes of the seats.
use Rattle.std.proofs.Common.{◌≡◌, ℕ, List, Option, Some, None, refl, sym, ap, subst, ◌∙◌}
use Rattle.std.specs.FinMap.{get, insert}
use Rattle.std.proofs.lemmas.Option.{none-some}
use Rattle.fluid_log.specs.declared.fault.KeeperFault.{KeeperFault}
use Rattle.fluid_log.specs.declared.fault.KeeperFault.TheVariants.{Failed}
use Rattle.fluid_table.proofs.Places.{insert_again, get_own}
use Rattle.fluid_disk.specs.Disk.{Stored}
use Rattle.fluid_disk_keeper.specs.declared.keeper.Disks.{Disks}
use Rattle.fluid_disk_keeper.specs.Keepers.{DiskKeeping, AreOpened, AreGivenBack}
use Rattle.fluid_disk_shelves.specs.declared.seat.Seat.{Seat}
use Rattle.fluid_disk_shelves.specs.declared.seat.Seat.TheVariants.{Shut, In, Out}
use Rattle.fluid_disk_shelves.specs.Shelves.{Seats, IsNotOut, IsKeeperOf, TakesKeeper, IsRefusedAt, IsRefused}

module _ {D : Type 0} (seen : D → Stored) (may_leave : D → List ℕ → Type 0) (old : Seats D) (name : List ℕ) where
  -- the seat keeps a count of none until the keeper's is known
  pub seat_taken : (mid : Seats D) → mid ≡ insert old name (Out 0) → get mid name ≡ Some (Out 0)
  seat_taken mid is = ap (λ (m : Seats D). get m name) is ∙ get_own old name (Out 0)

  over : (mid new : Seats D) (seat : Seat D) → mid ≡ insert old name (Out 0) → new ≡ insert mid name seat → new ≡ insert old name seat
  over mid new seat is then = then ∙ ap (λ (m : Seats D). insert m name seat) is ∙ insert_again old name (Out 0) seat

  pub takes_in : (mid new : Seats D) (keeper : DiskKeeping D) (faults : ℕ) → get old name ≡ Some (In keeper) → mid ≡ insert old name (Out 0) → new ≡ insert mid name (Out faults) → faults ≡ keeper.faults
      → TakesKeeper seen may_leave name old new keeper
  takes_in mid new keeper faults there is then count = record {
    is = subst (λ (o : Option (Seat D)). IsKeeperOf seen may_leave o keeper) (sym there) refl;
    out = over mid new (Out faults) is then ∙ ap (λ (n : ℕ). insert old name (Out n)) count;
  }

  pub takes_shut : (new : Seats D) (disks : Disks D) (keeper : DiskKeeping D) → get old name ≡ Some (Shut disks) → new ≡ insert old name (Out 0) → AreOpened seen may_leave disks keeper → TakesKeeper seen may_leave name old new keeper
  takes_shut new disks keeper there is opened = record {
    is = subst (λ (o : Option (Seat D)). IsKeeperOf seen may_leave o keeper) (sym there) opened;
    out = is ∙ ap (λ (n : ℕ). insert old name (Out n)) (sym opened.no_faults);
  }

  pub refused_none : (new : Seats D) → get old name ≡ None → new ≡ old → IsRefused seen name old new Failed
  refused_none new there same = subst (λ (o : Option (Seat D)). IsRefusedAt seen name old new o Failed) (sym there) (refl, same)

  pub refused_shut : (mid new : Seats D) (before disks : Disks D) (fault : KeeperFault) → get old name ≡ Some (Shut before) → mid ≡ insert old name (Out 0) → new ≡ insert mid name (Shut disks)
      → AreGivenBack seen before disks fault → IsRefused seen name old new fault
  refused_shut mid new before disks fault there is then given =
      subst (λ (o : Option (Seat D)). IsRefusedAt seen name old new o fault) (sym there) (record { disks = disks; back = over mid new (Shut disks) is then; given = given })

  pub never_out : (given : ℕ) → get old name ≡ Some (Out given) → IsNotOut (get old name) → ⊥
  never_out given there not = let here : IsNotOut {D = D} (Some (Out given)) = subst (IsNotOut {D = D}) there not in none-some _ (sym here)
