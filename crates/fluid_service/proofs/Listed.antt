-- Lists of steps with one more at the end.
use Rattle.std.proofs.Common.{◌≡◌, ℕ, ◌+◌, List, [], ◌∷◌, ◌++◌, length, Some, refl, ap, ◌∙◌, arith}
use Rattle.std.specs.Option.{option_or}
use Rattle.fluid_log.specs.Shelving.{Shelving}
use Rattle.fluid_lane.specs.declared.fault.LaneFault.TheVariants as lane
use Rattle.fluid_opening.specs.declared.fault.DoorFault.{DoorFault}
use Rattle.fluid_opening.specs.declared.fault.DoorFault.TheVariants.{ShelfFailed, Lane, TooManyDocuments, NoMemory}
use Rattle.fluid_opening.specs.declared.shelf.ShelfStep.{ShelfStep}
use Rattle.fluid_opening.specs.declared.shelf.ShelfStep.TheVariants.{Opened, Failed}
use Rattle.fluid_opening.specs.Steps.{opened, failures, last_failure}
use Rattle.fluid_service.specs.Shelved.{FailedSo, AllFailedSo}
use Rattle.fluid_service.specs.Opening.{GoesOn}

-- ---- an opening

pub opened-opened : (l : List ShelfStep) (name : List ℕ) → opened (l ++ Opened name ∷ []) ≡ opened l ++ name ∷ []
opened-opened [] name = refl
opened-opened (Opened other ∷ l) name = ap (λ names. other ∷ names) (opened-opened l name)
opened-opened (Failed other fault ∷ l) name = opened-opened l name

pub failures-opened : (l : List ShelfStep) (name : List ℕ) → failures (l ++ Opened name ∷ []) ≡ failures l
failures-opened [] name = refl
failures-opened (Opened other ∷ l) name = failures-opened l name
failures-opened (Failed other fault ∷ l) name = ap (λ n. 1 + n) (failures-opened l name)

pub last-opened : (l : List ShelfStep) (name : List ℕ) → last_failure (l ++ Opened name ∷ []) ≡ last_failure l
last-opened [] name = refl
last-opened (Opened other ∷ l) name = last-opened l name
last-opened (Failed other fault ∷ l) name = ap (λ o. option_or o (Some (other, fault))) (last-opened l name)

pub causes-opened : (s : Shelving) (l : List ShelfStep) (name : List ℕ) → AllFailedSo s l → AllFailedSo s (l ++ Opened name ∷ [])
causes-opened s [] name causes = tt
causes-opened s (Opened other ∷ l) name causes = causes-opened s l name causes
causes-opened s (Failed other fault ∷ l) name causes = (causes.0, causes-opened s l name causes.1)

-- ---- one that failed

pub opened-failed : (l : List ShelfStep) (name : List ℕ) (fault : DoorFault) → opened (l ++ Failed name fault ∷ []) ≡ opened l
opened-failed [] name fault = refl
opened-failed (Opened other ∷ l) name fault = ap (λ names. other ∷ names) (opened-failed l name fault)
opened-failed (Failed other of_other ∷ l) name fault = opened-failed l name fault

pub failures-failed : (l : List ShelfStep) (name : List ℕ) (fault : DoorFault) → failures (l ++ Failed name fault ∷ []) ≡ failures l + 1
failures-failed [] name fault = refl
failures-failed (Opened other ∷ l) name fault = failures-failed l name fault
failures-failed (Failed other of_other ∷ l) name fault = ap (λ n. 1 + n) (failures-failed l name fault) ∙ omega arith

pub last-failed : (l : List ShelfStep) (name : List ℕ) (fault : DoorFault) → last_failure (l ++ Failed name fault ∷ []) ≡ Some (name, fault)
last-failed [] name fault = refl
last-failed (Opened other ∷ l) name fault = last-failed l name fault
last-failed (Failed other of_other ∷ l) name fault = ap (λ o. option_or o (Some (other, of_other))) (last-failed l name fault)

pub causes-failed : (s : Shelving) (l : List ShelfStep) (name : List ℕ) (fault : DoorFault) → AllFailedSo s l → FailedSo s name fault → AllFailedSo s (l ++ Failed name fault ∷ [])
causes-failed s [] name fault causes so = (so, tt)
causes-failed s (Opened other ∷ l) name fault causes so = causes-failed s l name fault causes so
causes-failed s (Failed other of_other ∷ l) name fault causes so = (causes.0, causes-failed s l name fault causes.1 so)

-- ---- all steps

pub length-steps : (l : List ShelfStep) → length l ≡ length (opened l) + failures l
length-steps [] = refl
length-steps (Opened name ∷ l) = let rest = length-steps l in omega (arith, rest)
length-steps (Failed name fault ∷ l) = let rest = length-steps l in omega (arith, rest)

-- the shelves have failed so still
still_so : (old new : Shelving) (name : List ℕ) (fault : DoorFault) → GoesOn old new → FailedSo old name fault → FailedSo new name fault
still_so old new name (ShelfFailed note) on so = omega (arith, on.later, so)
still_so old new name (Lane (lane.LogFailed note)) on so = omega (arith, on.later, so)
still_so old new name (Lane (lane.Full entries)) on so = on.starts name (lane.Full entries) so
still_so old new name (Lane (lane.BadRecord place)) on so = on.starts name (lane.BadRecord place) so
still_so old new name (Lane (lane.NoCheckpoint asked stored)) on so = on.starts name (lane.NoCheckpoint asked stored) so
still_so old new name (Lane lane.CheckpointsFull) on so = on.starts name lane.CheckpointsFull so
still_so old new name (Lane lane.TooManyClients) on so = on.starts name lane.TooManyClients so
still_so old new name (Lane (lane.DeltaFailed note)) on so = omega (arith, on.later, so)
still_so old new name (Lane lane.NoMemory) on so = so
still_so old new name (Lane (lane.BadCheckpoint number bad)) on so = on.starts name (lane.BadCheckpoint number bad) so
still_so old new name (Lane (lane.TooLarge bytes)) on so = on.starts name (lane.TooLarge bytes) so
still_so old new name (Lane lane.Worn) on so = on.starts name lane.Worn so
still_so old new name (TooManyDocuments count) on so = so
still_so old new name NoMemory on so = so

pub causes_on : (old new : Shelving) (l : List ShelfStep) → GoesOn old new → AllFailedSo old l → AllFailedSo new l
causes_on old new [] on causes = tt
causes_on old new (Opened name ∷ l) on causes = causes_on old new l on causes
causes_on old new (Failed name fault ∷ l) on causes = (still_so old new name fault on causes.0, causes_on old new l on causes.1)
