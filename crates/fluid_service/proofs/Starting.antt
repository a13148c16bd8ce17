-- An opening whose lane was started: it is kept, or put back for want of memory.
use Rattle.std.proofs.Common.{◌≡◌, ℕ, ◌+◌, ◌<◌, ◌≤◌, Bool, true, false, cond, List, length, Some, None, is_some, refl, sym, ap, ◌∙◌, bytes_eq}
use Rattle.std.specs.FinMap.{get, insert, remove}
use Rattle.fluid_io.specs.Causes.{Tells}
use Rattle.fluid_table.proofs.Places.{get_removed, get_inserted, same_values}
use Rattle.fluid_rules.proofs.Ids.{same_id}
use Rattle.fluid_rules.specs.declared.limits.Limits.{Limits}
use Rattle.fluid_log.specs.Keeping.{Keeping, HasLengths}
use Rattle.fluid_log.specs.Shelving.{Shelving, GivesKeeper, PutsBack}
use Rattle.fluid_types.specs.Forms.{largest}
use Rattle.fluid_document.specs.Laws.{CheckpointIsLoaded}
use Rattle.fluid_lane.specs.declared.steps.Step.{Step}
use Rattle.fluid_lane.specs.Steps.{ledger, steps}
use Rattle.fluid_lane.specs.Standing.{Standing, LaneStands, IsLeftFor}
use Rattle.fluid_lane.specs.Starting.{Starts}
use Rattle.fluid_doors.specs.Laws.{NewIsKept}
use Rattle.fluid_opening.specs.Opening.{Opens}
use Rattle.fluid_opening.specs.declared.opening.TheConstants.{MOST_DOCUMENTS}
use Rattle.fluid_service.specs.Visiting.{Visiting}
use Rattle.fluid_service.specs.Shelved.{Shelved, IsContentKept, IsKeeperKept, AreKept, GiveKept, is_open, IsShelf}
use Rattle.fluid_service.specs.Opening.{AreDoorOf, GoesOn, KeepsVisit}
use Rattle.fluid_service.proofs.Beginnings.{tell_at}
use Rattle.fluid_service.proofs.Carrying.{given_kept, kept_given, kept_back, told_given, goes_given, goes_there_and_back, lane_kept}
use Rattle.fluid_service.proofs.Standings.{enrolled, shelved, is_in, same_shelf, more_shelf, lane_served}

-- the keeper that was given tells nothing, or what is kept
pub may_start : {K : Type 0} → NewIsKept → (seen : K → Keeping) (name : List ℕ) (old new : Shelving) (keeper : K) → AreKept old → GiveKept seen old → GivesKeeper name old new (seen keeper) → Tells (seen keeper).content IsContentKept
may_start fresh seen name old new keeper kept give gives = by (is_some old.held) refl
  where
    by : (b : Bool) → is_some old.held ≡ b → Tells (seen keeper).content IsContentKept
    by true told = let one = given_kept fresh name old new (seen keeper) kept gives told in tell_at (seen keeper).content one.content IsContentKept one.tells one.kept
    by false untold = give untold keeper

-- so the lane that was started over it stands for some list
pub lane_stands : {K : Type 0} → NewIsKept → (seen : K → Keeping) (limits : Limits) (name : List ℕ) (moment : ℕ) (old new : Shelving) (keeper : K) (lane : Standing) → AreKept old → GiveKept seen old → GivesKeeper name old new (seen keeper)
    → Starts (seen keeper) limits moment lane → (l : List Step) × LaneStands lane l
lane_stands fresh seen limits name moment old new keeper lane kept give gives starts =
    let some = starts.some (may_start fresh seen name old new keeper kept give gives) in (steps some.0, some.1)

module _ (law : CheckpointIsLoaded) (fresh : NewIsKept) (name : List ℕ) (moment : ℕ) (s : Shelved) (mid : Shelving) (lane : Standing) (shelf : IsShelf s) (closed : is_open name s ≡ false) (opens : Opens s.limits name moment s.shelving mid lane)
    (few : lane.entries.entered ≤ largest) (later : s.shelving.faults ≤ mid.faults) where
  pub on_given : GoesOn s.shelving mid
  on_given = goes_given law fresh name moment s.shelving mid opens.keeper shelf.kept opens.gives s.limits lane opens.starts few later

  -- one visit of the door is kept, and one given
  module _ (first second : Visiting) (are : AreDoorOf name lane (first, second)) where
    pub keeps_first : KeepsVisit name moment s (enrolled s mid first) second
    keeps_first = record {
      own = first;
      opens = record { lane = lane; opens = opens; door = are.0 };
      split = are.1;
      served = lane_served fresh s.limits name moment s.shelving mid lane first shelf.kept opens are.0;
      becomes = refl;
    }

    pub shelf_first : length s.visits < MOST_DOCUMENTS → s.failed + length s.visits < largest → IsShelf (enrolled s mid first)
    shelf_first room numbered =
        more_shelf s mid first opens.keeper.faults shelf (ap (λ n. is_open n s) are.0.name_is ∙ closed) room numbered (opens.gives.out ∙ ap (λ n. insert s.shelving.out n opens.keeper.faults) (sym are.0.name_is))
        (kept_given name s.shelving mid opens.keeper shelf.kept opens.gives) on_given (lane_served fresh s.limits name moment s.shelving mid lane first shelf.kept opens are.0)

  absent_or : (q : List ℕ) (b : Bool) → bytes_eq q name ≡ b → cond b None (get (insert s.shelving.out name opens.keeper.faults) q) ≡ get s.shelving.out q
  absent_or q true same = sym (ap (get s.shelving.out) (same_id q name same) ∙ is_in s name shelf closed)
  absent_or q false other = get_inserted s.shelving.out name opens.keeper.faults q ∙ ap (λ b. cond b (Some opens.keeper.faults) (get s.shelving.out q)) other

  -- its keeper is put back
  module _ (new : Shelving) (back : Keeping) (puts : PutsBack name mid new back) where
    out_back : new.out ≡ s.shelving.out
    out_back = same_values new.out s.shelving.out (λ q.
        ap (λ out. get out q) puts.out ∙ ap (λ out. get (remove out name) q) opens.gives.out ∙ get_removed (insert s.shelving.out name opens.keeper.faults) name q ∙ absent_or q (bytes_eq q name) refl)

    pub on_back : GoesOn s.shelving new
    on_back = goes_there_and_back law fresh name moment s.shelving mid opens.keeper shelf.kept opens.gives s.limits lane opens.starts few new back puts later

    pub shelf_back : (is_some s.shelving.held ≡ true → IsKeeperKept back) → IsShelf (shelved s new)
    shelf_back kept =
        same_shelf s new shelf out_back (kept_back name mid new back (kept_given name s.shelving mid opens.keeper shelf.kept opens.gives) puts (λ told. kept (sym (told_given name s.shelving mid opens.keeper opens.gives) ∙ told))) on_back

  -- the lane that comes back leaves a kept keeper
  pub back_kept : (left : Standing) (l : List Step) (k : Keeping) → Rattle.fluid_doors.specs.Terms.terms_of left ≡ Rattle.fluid_doors.specs.Terms.terms_of lane → k ≡ left.keeping → Tells k.content (IsLeftFor left.owed (ledger l))
      → Tells left.keeping.content (HasLengths left.keeping) → is_some s.shelving.held ≡ true → IsKeeperKept k
  back_kept left l k terms same is sized told =
      let one = given_kept fresh name s.shelving mid opens.keeper shelf.kept opens.gives told in
      lane_kept left l k same (ap (λ t. t.told) terms ∙ opens.starts.fresh.told ∙ ap is_some one.tells) is sized
