-- A keeper that was given, and what became of it.
use Rattle.std.proofs.Common.{◌≡◌, inr, ℕ, ◌≤◌, Bool, true, false, cond, List, Option, None, Result, Ok, Err, OnErr, IfOk, IfErr, bytes_eq, refl, sym, ap, ◌∙◌, arith}
use Rattle.std.specs.FinMap.{FinMap, get, remove}
use Rattle.fluid_io.specs.Causes.{Rose}
use Rattle.fluid_io.specs.declared.faults.FaultNote.{FaultNote}
use Rattle.fluid_table.specs.Table.{byte_order}
use Rattle.fluid_table.proofs.Places.{get_own, get_removed, same_values, remove_inserted}
use Rattle.std.proofs.lemmas.Slice.Eq.{bytes_eq-Decides}
use Rattle.fluid_log.specs.Keeping.{Keeping}
use Rattle.fluid_log.specs.Shelving.{Shelving, IsIn, GivesKeeper, PutsBack}
use Rattle.fluid_deltas.specs.Ranges.{IsNoted}
use Rattle.fluid_rules.specs.declared.limits.Limits.{Limits}
use Rattle.fluid_lane.specs.declared.fault.LaneFault.{LaneFault}
use Rattle.fluid_lane.specs.declared.fault.LaneFault.TheVariants as lane
use Rattle.fluid_lane.specs.Faults.{IsCausedBy}
use Rattle.fluid_lane.specs.Standing.{Standing}
use Rattle.fluid_lane.specs.Starting.{IsFaultOfStart}
use Rattle.fluid_opening.specs.declared.fault.DoorFault.{DoorFault}
use Rattle.fluid_opening.specs.declared.fault.DoorFault.TheVariants.{ShelfFailed, Lane, TooManyDocuments, NoMemory}
use Rattle.fluid_opening.specs.Faults.{of_starting}
use Rattle.fluid_opening.specs.Opening.{ComesBack, StartDoes, StartFails, OpenDoes, OpensOver, IsRisenFor, IsRisen}

-- ---- over a keeper that was given

module _ (limits : Limits) (name : List ℕ) (moment : ℕ) (given : Keeping) (old new : Shelving) where
  pub came_back : (fault : LaneFault) → ComesBack name moment given old new fault → StartDoes limits name moment given old new (Err (of_starting fault))
  came_back (lane.LogFailed note) back = (refl, back)
  came_back (lane.Full entries) back = (refl, back)
  came_back (lane.BadRecord place) back = (refl, back)
  came_back (lane.NoCheckpoint asked stored) back = (refl, back)
  came_back lane.CheckpointsFull back = (refl, back)
  came_back lane.TooManyClients back = (refl, back)
  came_back (lane.DeltaFailed note) back = (refl, back)
  came_back lane.NoMemory back = back
  came_back (lane.BadCheckpoint number bad) back = (refl, back)
  came_back (lane.TooLarge bytes) back = (refl, back)
  came_back lane.Worn back = (refl, back)

-- ---- from the shelves on

-- what was put and taken away again leaves what was
gone : {V : Type 0} (b : Bool) (found : Option V) → (b ≡ true → found ≡ None) → cond b None found ≡ found
gone true found none = sym (none refl)
gone false found none = refl

remove_absent : {V : Type 0} (m : FinMap byte_order V) (k : List ℕ) → get m k ≡ None → remove m k ≡ m
remove_absent m k none =
    same_values (remove m k) m (λ q. get_removed m k q ∙ gone (bytes_eq q k) (get m q) (λ same. ap (get m) ((bytes_eq-Decides q k).0 same) ∙ none))

rose_later : (first before now last : ℕ) → first ≤ before → Rose before now → now ≤ last → Rose first last
rose_later first before now last le rose more = omega (arith, le, rose, more)

noted_rose : (before now : ℕ) (note : FaultNote) → IsNoted before now note → Rose before now
noted_rose before now note is = omega (arith, is.first, is.rose, is.last)

module _ (limits : Limits) (name : List ℕ) (moment : ℕ) (old between new : Shelving) (keeper : Keeping) (gives : GivesKeeper name old between keeper) where
  fails : (fault : LaneFault) → ComesBack name moment keeper between new fault → StartFails name moment old new fault
  fails fault back = record { keeper = keeper; between = between; gives = gives; comes_back = back }

  pub opened : (result : Result Standing DoorFault) → StartDoes limits name moment keeper between new result → OpenDoes limits name moment old new result
  opened (Ok lane) (starts, same) = record { keeper = keeper; gives = rw same gives; starts = starts }
  opened (Err (ShelfFailed note)) does = absurd does
  opened (Err (Lane fault)) does = (does.0, fails fault does.1)
  opened (Err (TooManyDocuments count)) does = absurd does
  opened (Err NoMemory) does = inr (fails lane.NoMemory does)

  pub over : (result : Result Standing DoorFault) → StartDoes limits name moment keeper between new result → IfOk result (OpensOver limits name moment old new keeper)
  over (Ok lane) (starts, same) = (rw same gives, starts)
  over (Err fault) does = tt

  out_back : (fault : LaneFault) → IsIn old name → ComesBack name moment keeper between new fault → new.out ≡ old.out
  out_back fault is_in back =
      back.back.out ∙ ap (λ out. remove out name) gives.out ∙ remove_inserted old.out name keeper.faults ∙ remove_absent old.out name is_in

  pub shelved : (result : Result Standing DoorFault) → IsIn old name → StartDoes limits name moment keeper between new result → OnErr result (new.out ≡ old.out)
  shelved (Ok lane) is_in does = tt
  shelved (Err (ShelfFailed note)) is_in does = absurd does
  shelved (Err (Lane fault)) is_in does = out_back fault is_in does.1
  shelved (Err (TooManyDocuments count)) is_in does = absurd does
  shelved (Err NoMemory) is_in does = out_back lane.NoMemory is_in does

  -- a keeper that failed came back with more faults
  rose_back : (note : FaultNote) (left : Keeping) → old.faults ≤ between.faults → IsNoted keeper.faults left.faults note → PutsBack name between new left
      → Rose old.faults new.faults × (note.after ≤ new.faults)
  rose_back note left le noted back =
      let given = ap (λ out. get out name) gives.out ∙ get_own old.out name keeper.faults in
      let more = (back.counted keeper.faults given).more (noted_rose keeper.faults left.faults note noted) in
      (rose_later old.faults between.faults new.faults new.faults le more.0 (omega arith), omega (arith, noted.last, more.1))

  memory : NoMemory ≡ Lane lane.NoMemory → ⊥
  memory same = cc

  risen_for : (fault : LaneFault) (left : Keeping) → of_starting fault ≡ Lane fault → IsFaultOfStart left.records fault → old.faults ≤ between.faults → IsCausedBy keeper.faults left.faults fault → PutsBack name between new left
      → IsRisenFor old.faults new.faults fault
  risen_for (lane.LogFailed note) left own named le cause back = rose_back note left le cause back
  risen_for (lane.Full entries) left own named le cause back = absurd named
  risen_for (lane.BadRecord place) left own named le cause back = tt
  risen_for (lane.NoCheckpoint asked stored) left own named le cause back = absurd named
  risen_for lane.CheckpointsFull left own named le cause back = absurd named
  risen_for lane.TooManyClients left own named le cause back = absurd named
  risen_for (lane.DeltaFailed note) left own named le cause back = rose_back note left le cause back
  risen_for lane.NoMemory left own named le cause back = absurd (memory own)
  risen_for (lane.BadCheckpoint number bad) left own named le cause back = tt
  risen_for (lane.TooLarge bytes) left own named le cause back = absurd named
  risen_for lane.Worn left own named le cause back = tt

  pub risen : (result : Result Standing DoorFault) → old.faults ≤ between.faults → StartDoes limits name moment keeper between new result → IfErr result (IsRisen old.faults new.faults)
  risen (Ok lane) le does = tt
  risen (Err (ShelfFailed note)) le does = absurd does
  risen (Err (Lane fault)) le does = risen_for fault does.1.left does.0 does.1.partly.named le does.1.partly.cause does.1.back
  risen (Err (TooManyDocuments count)) le does = absurd does
  risen (Err NoMemory) le does = tt
