-- Shelves from which a keeper is given, and to which one comes back.
use Rattle.std.proofs.Common.{◌≡◌, inl, inr, ℕ, ◌≤◌, Bool, true, false, cond, List, [], Option, Some, None, is_some, refl, sym, ap, subst, ◌∙◌, arith, bytes_eq, unwrap_or}
use Rattle.std.specs.Prelude.{IfSome}
use Rattle.std.specs.Option.{option_map}
use Rattle.std.specs.FinMap.{FinMap, get, insert, remove}
use Rattle.std.proofs.lemmas.Bool.{false≢true}
use Rattle.fluid_io.specs.Causes.{Tells}
use Rattle.fluid_types.specs.Ledger.{Ledger}
use Rattle.fluid_rules.specs.declared.limits.Limits.{Limits}
use Rattle.fluid_rules.proofs.Ids.{own_id, same_id}
use Rattle.fluid_table.proofs.Places.{get_inserted, get_removed}
use Rattle.fluid_log.specs.Keeping.{Content, Keeping, HasLengths}
use Rattle.fluid_log.specs.Shelving.{Shelving, byte_order, fresh, keeper_under, GivesKeeper, PutsBack}
use Rattle.fluid_types.specs.Forms.{largest}
use Rattle.fluid_document.specs.Kept.{IsKept}
use Rattle.fluid_document.specs.Laws.{CheckpointIsLoaded}
use Rattle.fluid_lane.specs.declared.steps.Step.{Step}
use Rattle.fluid_lane.specs.declared.fault.LaneFault.{LaneFault}
use Rattle.fluid_lane.specs.declared.fault.LaneFault.TheVariants as lane
use Rattle.fluid_lane.specs.Steps.{ledger}
use Rattle.fluid_lane.specs.Standing.{Standing, IsLeftFor}
use Rattle.fluid_lane.specs.Restarts.{IsNotBad}
use Rattle.fluid_lane.specs.Starting.{StartsBad, Starts, StartsPartly}
use Rattle.fluid_document.specs.Loading.{newest}
use Rattle.fluid_doors.specs.Laws.{NewIsKept}
use Rattle.fluid_opening.specs.Faults.{of_starting}
use Rattle.fluid_opening.specs.declared.fault.DoorFault.TheVariants.{Lane}
use Rattle.fluid_opening.specs.Steps.{IsStartFault}
use Rattle.fluid_service.specs.Shelved.{IsKeeperKept, AreKept, IsOfStart, IsStartOf}
use Rattle.fluid_service.specs.Opening.{GoesOn}
use Rattle.fluid_service.proofs.Beginnings.{IsQuiet, quiet_start, told_at, tell_at, started_quiet, left_kept, wrong_still}

abbrev pub Keepers : Type 0
Keepers = FinMap byte_order Keeping

abbrev pub AllKept : Keepers → Type 0
AllKept held = (name : List ℕ) → IfSome (get held name) IsKeeperKept

told_map : {A : Type 0} (f : A → A) (o : Option A) → is_some (option_map f o) ≡ is_some o
told_map f None = refl
told_map f (Some a) = refl

-- ---- keepers that are kept

-- the keeper that a document gets
pub kept_under : NewIsKept → (held : Keepers) (name : List ℕ) → AllKept held → IsKeeperKept (keeper_under held name)
kept_under new held name all = by (get held name) (all name)
  where
    by : (o : Option Keeping) → IfSome o IsKeeperKept → IsKeeperKept (unwrap_or o fresh)
    by None one = record { content = record { log = []; deltas = []; checkpoints = [] }; tells = refl; lengths = record { records = refl; deltas = refl; checkpoints = refl }; kept = ([], new) }
    by (Some k) one = one

kept_removed : (held : Keepers) (name : List ℕ) → AllKept held → AllKept (remove held name)
kept_removed held name all q = subst (λ o. IfSome o IsKeeperKept) (sym (get_removed held name q)) (by (bytes_eq q name) (get held q) (all q))
  where
    by : (b : Bool) (o : Option Keeping) → IfSome o IsKeeperKept → IfSome (cond b None o) IsKeeperKept
    by true o one = tt
    by false o one = one

kept_put : (held : Keepers) (name : List ℕ) (k : Keeping) → AllKept held → IsKeeperKept k → AllKept (insert held name k)
kept_put held name k all last q = subst (λ o. IfSome o IsKeeperKept) (sym (get_inserted held name k q)) (by (bytes_eq q name) (get held q) (all q))
  where
    by : (b : Bool) (o : Option Keeping) → IfSome o IsKeeperKept → IfSome (cond b (Some k) o) IsKeeperKept
    by true o one = last
    by false o one = one

-- of shelves that tell their keepers, the one that is given is kept, and so are the others
pub given_kept : NewIsKept → (name : List ℕ) (old new : Shelving) (k : Keeping) → AreKept old → GivesKeeper name old new k → is_some old.held ≡ true → IsKeeperKept k
given_kept law name old new k kept gives told = by old.held kept gives.is told
  where
    by : (o : Option Keepers) → Tells o AllKept → Tells o (λ held. k ≡ keeper_under held name) → is_some o ≡ true → IsKeeperKept k
    by None all is told = absurd (false≢true told)
    by (Some held) all is told = subst IsKeeperKept (sym is) (kept_under law held name all)

pub kept_given : (name : List ℕ) (old new : Shelving) (k : Keeping) → AreKept old → GivesKeeper name old new k → AreKept new
kept_given name old new k kept gives = subst (λ o. Tells o AllKept) (sym gives.held) (by old.held kept)
  where
    by : (o : Option Keepers) → Tells o AllKept → Tells (option_map (λ held. remove held name) o) AllKept
    by None all = tt
    by (Some held) all = kept_removed held name all

pub kept_back : (name : List ℕ) (old new : Shelving) (k : Keeping) → AreKept old → PutsBack name old new k → (is_some old.held ≡ true → IsKeeperKept k) → AreKept new
kept_back name old new k kept back one = subst (λ o. Tells o AllKept) (sym back.held) (by old.held kept one)
  where
    by : (o : Option Keepers) → Tells o AllKept → (is_some o ≡ true → IsKeeperKept k) → Tells (option_map (λ held. insert held name k) o) AllKept
    by None all one = tt
    by (Some held) all one = kept_put held name k all (one refl)

pub told_given : (name : List ℕ) (old new : Shelving) (k : Keeping) → GivesKeeper name old new k → is_some new.held ≡ is_some old.held
told_given name old new k gives = ap is_some gives.held ∙ told_map (λ held. remove held name) old.held

pub told_back : (name : List ℕ) (old new : Shelving) (k : Keeping) → PutsBack name old new k → is_some new.held ≡ is_some old.held
told_back name old new k back = ap is_some back.held ∙ told_map (λ held. insert held name k) old.held

-- a lane that tells its content and stands for a list leaves a keeper that is kept
pub lane_kept : (s : Standing) (l : List Step) (k : Keeping) → k ≡ s.keeping → is_some s.keeping.content ≡ true → Tells k.content (IsLeftFor s.owed (ledger l)) → Tells s.keeping.content (HasLengths s.keeping) → IsKeeperKept k
lane_kept s l k same told left sized = subst IsKeeperKept (sym same) (by s.keeping.content refl told (subst (λ (x : Keeping). Tells x.content (IsLeftFor s.owed (ledger l))) same left) sized)
  where
    whole : (owed : Bool) (c : Content) → IsLeftFor owed (ledger l) c → (l : Ledger) × IsKept false l c
    whole false c is = (ledger l, is)
    whole true c (inl is) = (ledger l, is)
    whole true c (inr is) = (_, is.1)

    by : (o : Option Content) → s.keeping.content ≡ o → is_some o ≡ true → Tells o (IsLeftFor s.owed (ledger l)) → Tells o (HasLengths s.keeping) → IsKeeperKept s.keeping
    by None is told left sized = absurd (false≢true told)
    by (Some c) is told left sized = record { content = c; tells = is; lengths = sized; kept = whole s.owed c left }

-- ---- shelves that go on

pub goes_same : (old new : Shelving) → new.held ≡ old.held → old.faults ≤ new.faults → GoesOn old new
goes_same old new same later = record {
  told = ap is_some same;
  later = later;
  starts = λ name fault is. subst (λ o. Tells o (λ held. IsOfStart (keeper_under held name) fault)) (sym same) is;
}

goes_untold : (old new : Shelving) → old.held ≡ None → new.held ≡ None → old.faults ≤ new.faults → GoesOn old new
goes_untold old new was is later = goes_same old new (is ∙ sym was) later

-- the keeper under one name changed
goes_at : (name : List ℕ) (old new : Shelving) (held now : Keepers) → old.held ≡ Some held → new.held ≡ Some now → old.faults ≤ new.faults
    → ((q : List ℕ) → bytes_eq q name ≡ false → get now q ≡ get held q) → ((fault : LaneFault) → IsOfStart (keeper_under held name) fault → IsOfStart (keeper_under now name) fault) → GoesOn old new
goes_at name old new held now was is later others own = record {
  told = ap is_some is ∙ sym (ap is_some was);
  later = later;
  starts = λ q fault so. tell_at new.held now (λ h. IsOfStart (keeper_under h q) fault) is (by q fault (bytes_eq q name) refl (told_at old.held held (λ h. IsOfStart (keeper_under h q) fault) was so));
}
  where
    by : (q : List ℕ) (fault : LaneFault) (b : Bool) → bytes_eq q name ≡ b → IsOfStart (keeper_under held q) fault → IsOfStart (keeper_under now q) fault
    by q fault true same so =
        subst (λ n. IsOfStart (keeper_under now n) fault) (sym (same_id q name same)) (own fault (subst (λ n. IsOfStart (keeper_under held n) fault) (same_id q name same) so))
    by q fault false other so = subst (λ o. IsOfStart (unwrap_or o fresh) fault) (sym (others q other)) so

cond_at : {A : Type 0} (b : Bool) (a o : Option A) → b ≡ false → cond b a o ≡ o
cond_at true a o is = absurd (false≢true (sym is))
cond_at false a o is = refl

own_put : (held : Keepers) (name : List ℕ) (k : Keeping) → keeper_under (insert held name k) name ≡ k
own_put held name k = ap (λ o. unwrap_or o fresh) (get_inserted held name k name ∙ ap (λ b. cond b (Some k) (get held name)) (own_id name))

module _ (law : CheckpointIsLoaded) (fresh_kept : NewIsKept) (name : List ℕ) (moment : ℕ) (old mid : Shelving) (k : Keeping) (kept : AreKept old) (gives : GivesKeeper name old mid k) where
  -- a lane was started over the keeper, so nothing was wrong with it
  module _ (limits : Limits) (lane : Standing) (starts : Starts k limits moment lane) (few : lane.entries.entered ≤ largest) where
    none_wrong : (held : Keepers) → old.held ≡ Some held → (fault : LaneFault) → IsOfStart (keeper_under held name) fault → IsQuiet fault
    none_wrong held was fault is =
        let same = told_at old.held held (λ h. k ≡ keeper_under h name) was gives.is in
        let one = subst IsKeeperKept (sym same) (kept_under fresh_kept held name (told_at old.held held AllKept was kept)) in
        started_quiet k one.content limits moment lane fault one.tells starts few (told_at k.content one.content (λ c. StartsBad (newest k.checkpoints) c fault) one.tells (subst (λ x. IsOfStart x fault) (sym same) is))

    pub goes_given : old.faults ≤ mid.faults → GoesOn old mid
    goes_given later = by old.held refl
      where
        by : (o : Option Keepers) → old.held ≡ o → GoesOn old mid
        by None was = goes_untold old mid was (gives.held ∙ ap (option_map (λ held. remove held name)) was) later
        by (Some held) was =
            goes_at name old mid held (remove held name) was (gives.held ∙ ap (option_map (λ held. remove held name)) was) later
            (λ q other. get_removed held name q ∙ cond_at (bytes_eq q name) None (get held q) other) (λ fault is. quiet_start (keeper_under (remove held name) name) fault (none_wrong held was fault is))

    -- and it came back
    pub goes_there_and_back : (new : Shelving) (back : Keeping) → PutsBack name mid new back → old.faults ≤ mid.faults → GoesOn old new
    goes_there_and_back new back puts later = by old.held refl
      where
        by : (o : Option Keepers) → old.held ≡ o → GoesOn old new
        by None was =
            goes_untold old new was (puts.held ∙ ap (option_map (λ held. insert held name back)) (gives.held ∙ ap (option_map (λ held. remove held name)) was)) (omega (arith, later, puts.later))
        by (Some held) was =
            goes_at name old new held (insert (remove held name) name back) was (puts.held ∙ ap (option_map (λ held. insert held name back)) (gives.held ∙ ap (option_map (λ held. remove held name)) was)) (omega (arith, later, puts.later))
            (λ q other. get_inserted (remove held name) name back q ∙ cond_at (bytes_eq q name) (Some back) (get (remove held name) q) other ∙ get_removed held name q ∙ cond_at (bytes_eq q name) None (get held q) other)
            (λ fault is. quiet_start (keeper_under (insert (remove held name) name back) name) fault (none_wrong held was fault is))

  -- no lane was started, and the keeper came back
  module _ (new : Shelving) (left : Keeping) (fault : LaneFault) (partly : StartsPartly k left moment fault) (puts : PutsBack name mid new left) where
    pub goes_failed : old.faults ≤ new.faults → GoesOn old new
    goes_failed later = by old.held refl
      where
        by : (o : Option Keepers) → old.held ≡ o → GoesOn old new
        by None was =
            goes_untold old new was (puts.held ∙ ap (option_map (λ held. insert held name left)) (gives.held ∙ ap (option_map (λ held. remove held name)) was)) later
        by (Some held) was =
            let same = told_at old.held held (λ h. k ≡ keeper_under h name) was gives.is in
            let one = subst IsKeeperKept (sym same) (kept_under fresh_kept held name (told_at old.held held AllKept was kept)) in
            goes_at name old new held (insert (remove held name) name left) was (puts.held ∙ ap (option_map (λ held. insert held name left)) (gives.held ∙ ap (option_map (λ held. remove held name)) was)) later
            (λ q other. get_inserted (remove held name) name left q ∙ cond_at (bytes_eq q name) (Some left) (get (remove held name) q) other ∙ get_removed held name q ∙ cond_at (bytes_eq q name) None (get held q) other)
            (λ other is. subst (λ x. IsOfStart x other) (sym (own_put (remove held name) name left)) (wrong_still law k left moment fault one partly other (subst (λ x. IsOfStart x other) (sym same) is)))

    pub kept_failed : AreKept new
    kept_failed =
        kept_back name mid new left (kept_given name old mid k kept gives) puts
        (λ told. left_kept law k left moment fault (given_kept fresh_kept name old mid k kept gives (sym (told_given name old mid k gives) ∙ told)) partly)

    -- it was wrong with the keeper that was given
    pub wrong_given : IsStartOf old name fault
    wrong_given = by old.held refl
      where
        by : (o : Option Keepers) → old.held ≡ o → Tells o (λ held. IsOfStart (keeper_under held name) fault)
        by None was = tt
        by (Some held) was = subst (λ x. IsOfStart x fault) (told_at old.held held (λ h. k ≡ keeper_under h name) was gives.is) partly.bad

    -- and over shelves that tell their keepers it is no bad record or checkpoint
    pub may_fail : of_starting fault ≡ Lane fault → (told : Bool) → is_some old.held ≡ told → IsStartFault told fault
    may_fail of told is = by told is fault partly of
      where
        untold : true ≡ false → ⊥
        untold same = false≢true (sym same)

        bad_at : is_some old.held ≡ true → (other : LaneFault) → StartsPartly k left moment other → (P : Content → Type 0) → P ≡ (λ c. StartsBad (newest k.checkpoints) c other) → ((c : Content) → P c → ⊥) → ⊥
        bad_at told other partly P same none =
            let one = given_kept fresh_kept name old mid k kept gives told in
            none one.content (subst (λ Q. Q one.content) (sym same) (told_at k.content one.content (λ c. StartsBad (newest k.checkpoints) c other) one.tells partly.bad))

        never_at : is_some old.held ≡ true → (other : LaneFault) → StartsPartly k left moment other → IsNotBad other
        never_at told other partly =
            let one = given_kept fresh_kept name old mid k kept gives told in
            told_at k.content one.content (λ _. IsNotBad other) one.tells (partly.never one.kept.0 (tell_at k.content one.content (IsKept false one.kept.0) one.tells one.kept.1))

        by : (told : Bool) → is_some old.held ≡ told → (fault : LaneFault) → StartsPartly k left moment fault → of_starting fault ≡ Lane fault → IsStartFault told fault
        by told is (lane.LogFailed note) partly of = partly.cause.rose
        by told is (lane.DeltaFailed note) partly of = partly.cause.rose
        by told is lane.Worn partly of = tt
        by told is lane.NoMemory partly of = cc
        by false is (lane.Full entries) partly of = refl
        by false is (lane.BadRecord place) partly of = refl
        by false is (lane.NoCheckpoint asked stored) partly of = refl
        by false is lane.CheckpointsFull partly of = refl
        by false is lane.TooManyClients partly of = refl
        by false is (lane.BadCheckpoint number bad) partly of = refl
        by false is (lane.TooLarge bytes) partly of = refl
        by true is (lane.Full entries) partly of = absurd (bad_at is (lane.Full entries) partly (λ _. ⊥) refl (λ _ x. x))
        by true is (lane.BadRecord place) partly of = absurd (never_at is (lane.BadRecord place) partly)
        by true is (lane.NoCheckpoint asked stored) partly of = absurd (bad_at is (lane.NoCheckpoint asked stored) partly (λ _. ⊥) refl (λ _ x. x))
        by true is lane.CheckpointsFull partly of = absurd (bad_at is lane.CheckpointsFull partly (λ _. ⊥) refl (λ _ x. x))
        by true is lane.TooManyClients partly of = absurd (bad_at is lane.TooManyClients partly (λ _. ⊥) refl (λ _ x. x))
        by true is (lane.BadCheckpoint number bad) partly of = absurd (never_at is (lane.BadCheckpoint number bad) partly)
        by true is (lane.TooLarge bytes) partly of = absurd (bad_at is (lane.TooLarge bytes) partly (λ _. ⊥) refl (λ _ x. x))
