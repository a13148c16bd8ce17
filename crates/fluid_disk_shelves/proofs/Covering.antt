-- What holds of the seats of shelves over disks, and what a call makes of what they show.
use Rattle.std.proofs.Common.{◌≡◌, ℕ, ◌≤◌, Bool, true, false, cond, List, Option, Some, None, option_and_then, is_some, IsSome, unwrap_or, option_map, bytes_eq, nat_le, max, refl, sym, ap, subst, ◌∙◌, arith}
use Rattle.std.specs.Option.{IfSome}
use Rattle.std.specs.FinMap.{FinMap, empty, get, insert, remove, get-empty}
use Rattle.std.proofs.lemmas.Bool.{false≢true, leb-true, leb-false}
use Rattle.std.proofs.lemmas.Option.{none-some}
use Rattle.fluid_io.specs.Causes.{Tells, one_more}
use Rattle.fluid_log.specs.declared.fault.KeeperFault.{KeeperFault}
use Rattle.fluid_log.specs.Keeping.{Keeping}
use Rattle.fluid_log.specs.Shelving.{byte_order, fresh, IsCovered, GivesKeeper, StaysPut, CountsSince, PutsBack}
use Rattle.fluid_log.specs.Places.{values_where, faults_back}
use Rattle.fluid_table.proofs.Places.{get_inserted}
use Rattle.fluid_disk.specs.Disk.{Stored}
use Rattle.fluid_disk.specs.Files.{StaysFound}
use Rattle.fluid_disk_keeper.specs.declared.keeper.Disks.{Disks}
use Rattle.fluid_disk_keeper.specs.Keepers.{DiskKeeping, kept_on}
use Rattle.fluid_disk_shelves.specs.declared.seat.Seat.{Seat}
use Rattle.fluid_disk_shelves.specs.declared.seat.Seat.TheVariants.{Shut, In, Out}
use Rattle.fluid_disk_shelves.specs.Found.{found_on}
use Rattle.fluid_disk_shelves.specs.Shelves.{Seats, keeper_in, given_with, IsNotOut, IsBelow, AreBelow, shelves_on, IsKeeperOf, TakesKeeper, IsRefusedAt, IsRefused}
use Rattle.fluid_disk_shelves.proofs.Found.{found_again}
use Rattle.fluid_disk_shelves.proofs.Opened.{opened_is}
use Rattle.fluid_disk_shelves.proofs.Values.{get-values_where, values_where-insert, values_where-remove, values_where-kept, values_where-empty, remove-empty}

-- ---- of shelves without documents

pub whole_empty : (D : Type 0) → values_where (given_with {D = D}) empty ≡ empty
whole_empty D = values_where-empty (given_with {D = D})

pub below_empty : (D : Type 0) (faults : ℕ) → AreBelow {D = D} faults empty
below_empty D faults = λ name. subst (λ (o : Option (Seat D)). IfSome o (IsBelow faults)) (sym (get-empty byte_order name)) tt

-- ---- which are out

module _ {D : Type 0} where
  none_out : (seat : Option (Seat D)) → option_and_then given_with seat ≡ None → IsNotOut seat
  none_out None is = tt
  none_out (Some (Shut disks)) is = refl
  none_out (Some (In keeper)) is = refl
  none_out (Some (Out given)) is = absurd (none-some _ (sym is))

  pub not_out : (seats : Seats D) (name : List ℕ) → get (values_where given_with seats) name ≡ None → IsNotOut (get seats name)
  not_out seats name is = none_out (get seats name) (sym (get-values_where given_with seats name) ∙ is)

  pub whole_added : (seats : Seats D) (name : List ℕ) (disks : Disks D) → values_where given_with seats ≡ empty → values_where given_with (insert seats name (Shut disks)) ≡ empty
  whole_added seats name disks whole = values_where-remove given_with seats name (Shut disks) refl ∙ ap (λ out. remove out name) whole ∙ remove-empty name

  -- ---- faults

  seat_later : (o : Option (Seat D)) (before after : ℕ) → before ≤ after → IfSome o (IsBelow before) → IfSome o (IsBelow after)
  seat_later None before after le below = tt
  seat_later (Some (Shut disks)) before after le below = tt
  seat_later (Some (In keeper)) before after le below = let fact : keeper.faults ≤ before = below in omega arith
  seat_later (Some (Out given)) before after le below = let fact : given ≤ before = below in omega arith

  pub below_later : (seats : Seats D) (before after : ℕ) → before ≤ after → AreBelow before seats → AreBelow after seats
  below_later seats before after le below = λ name. seat_later (get seats name) before after le (below name)

  pub below_insert : (seats : Seats D) (name : List ℕ) (seat : Seat D) (before after : ℕ) → before ≤ after → AreBelow before seats → IsBelow after seat → AreBelow after (insert seats name seat)
  below_insert seats name seat before after le below within = λ q.
      subst (λ o. IfSome o (IsBelow after)) (sym (get_inserted seats name seat q)) (at_name q)
    where
      at_name : (q : List ℕ) → IfSome (cond (bytes_eq q name) (Some seat) (get seats q)) (IsBelow after)
      at_name q = elim (bytes_eq q name) as (λ b. IfSome (cond b (Some seat) (get seats q)) (IsBelow after)) [ true ↦ within | false ↦ below_later seats before after le below q ]

  pub given_within : (seats : Seats D) (name : List ℕ) (faults given : ℕ) → AreBelow faults seats → get seats name ≡ Some (Out given) → given ≤ faults
  given_within seats name faults given below there = subst (λ o. IfSome o (IsBelow faults)) there (below name)

-- the count of shelves behind a keeper that came back
back_counts : (given back faults : ℕ) → CountsSince given back faults (faults_back given back faults)
back_counts given back faults =
    elim (nat_le (one_more given) back) as (λ b. nat_le (one_more given) back ≡ b → CountsSince given back faults (cond b (max (one_more faults) back) faults)) [
      | true ↦ λ rose. let le = leb-true (one_more given) back rose in record { more = λ is. (omega arith, omega arith); no_more = λ lt. absurd (omega (arith, le, lt)) }
      | false ↦ λ same. let lt = leb-false (one_more given) back same in record { more = λ is. absurd (omega (arith, lt, is)); no_more = λ is. refl }
    ] refl

back_within : (given back faults : ℕ) → given ≤ faults → back ≤ faults_back given back faults
back_within given back faults le =
    elim (nat_le (one_more given) back) as (λ b. nat_le (one_more given) back ≡ b → back ≤ cond b (max (one_more faults) back) faults) [
      | true ↦ λ rose. omega arith
      | false ↦ λ same. let lt = leb-false (one_more given) back same in omega (arith, lt)
    ] refl

module _ {D : Type 0} (seen : D → Stored) (tells : Bool) where
  held_covered : (o : Option (Seat D)) (faults : ℕ) → IfSome o (IsBelow faults) → IfSome (option_and_then (keeper_in seen) o) (λ keeper. keeper.faults ≤ faults)
  held_covered None faults below = tt
  held_covered (Some (Shut disks)) faults below = omega arith
  held_covered (Some (In keeper)) faults below = below
  held_covered (Some (Out given)) faults below = tt

  out_covered : (o : Option (Seat D)) (faults : ℕ) → IfSome o (IsBelow faults) → IfSome (option_and_then given_with o) (λ given. given ≤ faults)
  out_covered None faults below = tt
  out_covered (Some (Shut disks)) faults below = tt
  out_covered (Some (In keeper)) faults below = tt
  out_covered (Some (Out given)) faults below = below

  pub covers : (seats : Seats D) (faults : ℕ) → AreBelow faults seats → IsCovered (shelves_on seen tells (record { seats = seats; faults = faults }))
  covers seats faults below = record {
    held = elim tells as (λ b. Tells (cond b (Some (values_where (keeper_in seen) seats)) None) (λ held. (name : List ℕ) → IfSome (get held name) (λ keeper. keeper.faults ≤ faults))) [
      | true ↦ λ name. subst (λ o. IfSome o (λ (keeper : Keeping). keeper.faults ≤ faults)) (sym (get-values_where (keeper_in seen) seats name)) (held_covered (get seats name) faults (below name))
      | false ↦ tt
    ];
    out = λ name. subst (λ o. IfSome o (λ given. given ≤ faults)) (sym (get-values_where given_with seats name)) (out_covered (get seats name) faults (below name));
  }

  -- what is told of the seats after a change
  told_held : (old new : Seats D) (f : FinMap byte_order Keeping → FinMap byte_order Keeping) → values_where (keeper_in seen) new ≡ f (values_where (keeper_in seen) old)
      → (shelves_on seen tells (record { seats = new; faults = 0 })).held ≡ option_map f (shelves_on seen tells (record { seats = old; faults = 0 })).held
  told_held old new f is = elim tells as (λ b. cond b (Some (values_where (keeper_in seen) new)) None ≡ option_map f (cond b (Some (values_where (keeper_in seen) old)) None)) [ true ↦ ap Some is | false ↦ refl ]

  same_held : (old new : Seats D) → values_where (keeper_in seen) new ≡ values_where (keeper_in seen) old
      → (shelves_on seen tells (record { seats = new; faults = 0 })).held ≡ (shelves_on seen tells (record { seats = old; faults = 0 })).held
  same_held old new is = ap (λ held. cond tells (Some held) None) is

  -- ---- a keeper is given

  module _ (may_leave : D → List ℕ → Type 0) (told : (disk : D) → is_some (seen disk).bytes ≡ tells) (leaves : (disk : D) → Tells (seen disk).bytes (may_leave disk)) where
    keeper_is : (o : Option (Seat D)) (keeper : DiskKeeping D) → tells ≡ true → IsKeeperOf seen may_leave o keeper → kept_on seen keeper ≡ unwrap_or (option_and_then (keeper_in seen) o) fresh
    keeper_is None keeper all is = absurd is
    keeper_is (Some (Shut disks)) keeper all is =
        let is_told : (disk : D) → is_some (seen disk).bytes ≡ true = λ disk. told disk ∙ all in
        opened_is seen may_leave disks keeper is leaves is_told
    keeper_is (Some (In held)) keeper all is = ap (kept_on seen) is
    keeper_is (Some (Out given)) keeper all is = absurd is

    pub keeper_below : (seats : Seats D) (name : List ℕ) (keeper : DiskKeeping D) (faults : ℕ) → AreBelow faults seats → IsKeeperOf seen may_leave (get seats name) keeper → keeper.faults ≤ faults
    keeper_below seats name keeper faults below is = at_seat (get seats name) (below name) is
      where
        at_seat : (o : Option (Seat D)) → IfSome o (IsBelow faults) → IsKeeperOf seen may_leave o keeper → keeper.faults ≤ faults
        at_seat None within is = absurd is
        at_seat (Some (Shut disks)) within is = omega (arith, is.no_faults)
        at_seat (Some (In held)) within is = let fact : held.faults ≤ faults = within in omega (arith, ap (λ (k : DiskKeeping D). k.faults) is)
        at_seat (Some (Out given)) within is = absurd is

    pub takes_below : (old new : Seats D) (faults : ℕ) (name : List ℕ) (keeper : DiskKeeping D) → AreBelow faults old → TakesKeeper seen may_leave name old new keeper → AreBelow faults new
    takes_below old new faults name keeper below takes =
        subst (AreBelow faults) (sym takes.out) (below_insert old name (Out keeper.faults) faults faults (omega arith) below (keeper_below old name keeper faults below takes.is))

    pub gives : (old new : Seats D) (faults : ℕ) (name : List ℕ) (keeper : DiskKeeping D) → AreBelow faults old → TakesKeeper seen may_leave name old new keeper
        → GivesKeeper name (shelves_on seen tells (record { seats = old; faults = faults })) (shelves_on seen tells (record { seats = new; faults = faults })) (kept_on seen keeper)
    gives old new faults name keeper below takes = record {
      is = is_told tells refl;
      held = told_held old new (λ held. remove held name) (ap (values_where (keeper_in seen)) takes.out ∙ values_where-remove (keeper_in seen) old name (Out keeper.faults) refl);
      out = ap (values_where given_with) takes.out ∙ values_where-insert given_with old name (Out keeper.faults) keeper.faults refl;
      covered = keeper_below old name keeper faults below takes.is;
    }
      where
        is_told : (b : Bool) → tells ≡ b → Tells (cond b (Some (values_where (keeper_in seen) old)) None) (λ held. kept_on seen keeper ≡ unwrap_or (get held name) fresh)
        is_told true all = keeper_is (get old name) keeper all takes.is ∙ ap (λ o. unwrap_or o fresh) (sym (get-values_where (keeper_in seen) old name))
        is_told false all = tt

    -- ---- none is given

    same_will : (before after : Disks D) → found_on (seen after.log) ≡ found_on (seen before.log) → found_on (seen after.deltas) ≡ found_on (seen before.deltas)
        → found_on (seen after.checkpoints) ≡ found_on (seen before.checkpoints) → keeper_in seen (Shut after) ≡ keeper_in seen (Shut before)
    same_will before after l d c = cc

    pub stays : (old new : Seats D) (before after : ℕ) (name : List ℕ) (fault : KeeperFault) → IsRefused seen name old new fault
        → StaysPut (shelves_on seen tells (record { seats = old; faults = before })) (shelves_on seen tells (record { seats = new; faults = after }))
    stays old new before after name fault refused = at_seat (get old name) refl refused
      where
        at_seat : (o : Option (Seat D)) → get old name ≡ o → IsRefusedAt seen name old new o fault
            → StaysPut (shelves_on seen tells (record { seats = old; faults = before })) (shelves_on seen tells (record { seats = new; faults = after }))
        at_seat None there is = record { held = same_held old new (ap (values_where (keeper_in seen)) is.1); out = ap (values_where given_with) is.1 }
        at_seat (Some (Shut disks)) there is =
            let again : (one other : D) → StaysFound (seen one) (seen other) → found_on (seen other) ≡ found_on (seen one) = λ one other. found_again (seen one) (seen other) (told other ∙ sym (told one)) in
            let same = same_will disks is.disks (again disks.log is.disks.log is.given.log.finds) (again disks.deltas is.disks.deltas is.given.deltas.finds) (again disks.checkpoints is.disks.checkpoints is.given.checkpoints.finds) in
            record {
              held = same_held old new (ap (values_where (keeper_in seen)) is.back ∙ values_where-kept (keeper_in seen) old name (Shut is.disks) (Shut disks) there same);
              out = ap (values_where given_with) is.back ∙ values_where-kept given_with old name (Shut is.disks) (Shut disks) there refl;
            }
        at_seat (Some (In keeper)) there is = absurd is
        at_seat (Some (Out given)) there is = absurd is

    pub refused_below : (old new : Seats D) (before after : ℕ) (name : List ℕ) (fault : KeeperFault) → before ≤ after → AreBelow before old → IsRefused seen name old new fault → AreBelow after new
    refused_below old new before after name fault le below refused = at_seat (get old name) refused
      where
        at_seat : (o : Option (Seat D)) → IsRefusedAt seen name old new o fault → AreBelow after new
        at_seat None is = subst (AreBelow after) (sym is.1) (below_later old before after le below)
        at_seat (Some (Shut disks)) is = subst (AreBelow after) (sym is.back) (below_insert old name (Shut is.disks) before after le below tt)
        at_seat (Some (In keeper)) is = absurd is
        at_seat (Some (Out given)) is = absurd is

  -- ---- a keeper comes back

  seat_out : (o : Option (Seat D)) → IsSome (option_and_then given_with o) → (given : ℕ) × (o ≡ Some (Out given))
  seat_out None is = absurd (false≢true is)
  seat_out (Some (Shut disks)) is = absurd (false≢true is)
  seat_out (Some (In keeper)) is = absurd (false≢true is)
  seat_out (Some (Out given)) is = (given, refl)

  -- the seat of a keeper that is out has the count with which it was given
  pub is_out : (seats : Seats D) (name : List ℕ) → IsSome (get (values_where given_with seats) name) → (given : ℕ) × (get seats name ≡ Some (Out given))
  is_out seats name is = seat_out (get seats name) (subst (λ o. IsSome o) (get-values_where given_with seats name) is)

  pub puts_below : (seats new : Seats D) (name : List ℕ) (keeper : DiskKeeping D) (faults after given : ℕ) → AreBelow faults seats → get seats name ≡ Some (Out given)
      → new ≡ insert seats name (In keeper) → after ≡ faults_back given keeper.faults faults → faults ≤ after → AreBelow after new
  puts_below seats new name keeper faults after given below there is counted later =
      let within = back_within given keeper.faults faults (given_within seats name faults given below there) in
      subst (AreBelow after) (sym is) (below_insert seats name (In keeper) faults after later below (subst (λ n. keeper.faults ≤ n) (sym counted) within))

  pub puts_back : (seats new : Seats D) (name : List ℕ) (keeper : DiskKeeping D) (faults after given : ℕ) → get seats name ≡ Some (Out given)
      → new ≡ insert seats name (In keeper) → after ≡ faults_back given keeper.faults faults → faults ≤ after
      → PutsBack name (shelves_on seen tells (record { seats = seats; faults = faults })) (shelves_on seen tells (record { seats = new; faults = after })) (kept_on seen keeper)
  puts_back seats new name keeper faults after given there is counted later = record {
    held = told_held seats new (λ held. insert held name (kept_on seen keeper)) (ap (values_where (keeper_in seen)) is ∙ values_where-insert (keeper_in seen) seats name (In keeper) (kept_on seen keeper) refl);
    out = ap (values_where given_with) is ∙ values_where-remove given_with seats name (In keeper) refl;
    counted = λ other found.
        let here : Some given ≡ Some other = ap (option_and_then given_with) (sym there) ∙ sym (get-values_where given_with seats name) ∙ found in
        let same : given ≡ other = cc in
        subst (λ n. CountsSince n keeper.faults faults after) same (subst (λ n. CountsSince given keeper.faults faults n) (sym counted) (back_counts given keeper.faults faults));
    later = later;
  }
