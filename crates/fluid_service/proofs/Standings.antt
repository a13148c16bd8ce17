-- What a shelf stands for, and what always holds of it, behind each step.
use Rattle.std.proofs.Common.{◌≡◌, inl, inr, ℕ, ◌+◌, ◌<◌, ◌≤◌, Bool, true, false, ◌||◌, List, [], ◌∷◌, ◌++◌, length, map, Option, Some, None, is_some, Result, Ok, Err, IfOk, refl, sym, ap, subst, ◌∙◌, arith, append-nil, length-append, bytes_eq}
use Rattle.std.specs.Prelude.{cond, IfSome}
use Rattle.std.proofs.lemmas.List.{length-map}
use Rattle.std.proofs.lemmas.Bool.{le-leb, lt-leb, leb-false, false≢true}
use Rattle.std.specs.FinMap.{get, insert, get-empty}
use Rattle.fluid_json.specs.declared.memory.NoMemory.{NoMemory as Refused}
use Rattle.fluid_io.specs.Causes.{Tells}
use Rattle.fluid_table.specs.Table.{byte_order}
use Rattle.fluid_table.proofs.Places.{get_inserted}
use Rattle.fluid_turn.specs.Entries.{of_nobody}
use Rattle.fluid_rules.specs.declared.limits.Limits.{Limits}
use Rattle.fluid_log.specs.declared.keeper.TheConstants.{LONGEST_KEPT}
use Rattle.fluid_log.specs.Shelving.{Shelving, AreWhole, IsIn, StaysPut}
use Rattle.fluid_types.specs.Forms.{largest}
use Rattle.fluid_document.specs.Laws.{CheckpointIsLoaded}
use Rattle.fluid_lane.specs.declared.fault.LaneFault.{LaneFault}
use Rattle.fluid_lane.specs.declared.fault.LaneFault.TheVariants as lane
use Rattle.fluid_lane.specs.Standing.{Standing, LaneStands}
use Rattle.fluid_doors.specs.Laws.{NewIsKept}
use Rattle.fluid_doors.specs.Terms.{Doorway}
use Rattle.fluid_opening.specs.Faults.{of_starting}
use Rattle.fluid_opening.specs.Opening.{Opens, OpenDoes, StartFails, IsRisen}
use Rattle.fluid_opening.specs.declared.opening.TheConstants.{MOST_DOCUMENTS}
use Rattle.fluid_opening.specs.declared.fault.DoorFault.{DoorFault}
use Rattle.fluid_opening.specs.declared.fault.DoorFault.TheVariants.{ShelfFailed, Lane, TooManyDocuments, NoMemory}
use Rattle.fluid_opening.specs.declared.shelf.ShelfStep.{ShelfStep}
use Rattle.fluid_opening.specs.declared.shelf.ShelfStep.TheVariants.{Opened, Failed}
use Rattle.fluid_service.specs.declared.terms.ShelfTerms.{ShelfTerms}
use Rattle.fluid_service.specs.Visiting.{Visiting, name_of, is_among, find_visit, FindsVisit, IsFound, IsSplitOf}
use Rattle.fluid_opening.specs.Steps.{opened, is_opened, is_worn, is_full, refusal, refusal_by, IsOpeningFault}
use Rattle.fluid_service.specs.Shelved.{Shelved, terms_of, shelf_terms, nothing_open, with_failure, is_open, AreKept, IsServed, AllServed, AreDistinct, IsShelf, FailedSo, ShelfStands, Continues, IsStartOf}
use Rattle.fluid_service.specs.Keys.{IsVisitOf}
use Rattle.fluid_service.specs.Opening.{IsDoorOf, OpensVisit, GoesOn, KeepsVisit, KeepsRest, FailsToStart, StartsVisit}
use Rattle.fluid_service.proofs.Named.{names_push, open_push, distinct_push, found_among, found_in, served_push}
use Rattle.fluid_service.proofs.Listed.{opened-opened, failures-opened, last-opened, causes-opened, opened-failed, failures-failed, last-failed, causes-failed, length-steps, causes_on}
use Rattle.fluid_service.proofs.Carrying.{AllKept, given_kept, goes_same, goes_failed, kept_failed, wrong_given, may_fail}

-- ---- the list of a shelf

pub number_is : (s : Shelved) (l : List ShelfStep) → ShelfStands s l → length s.visits + s.failed ≡ length l
number_is s l stands =
    let names = ap length stands.names in let same = length-map s.visits name_of in let all = length-steps l in let failed = stands.failed in
    omega (arith, names, same, all, failed)

pub open_is : (s : Shelved) (l : List ShelfStep) (name : List ℕ) → ShelfStands s l → is_open name s ≡ is_opened name l
open_is s l name stands = ap (is_among name) stands.names

pub opened_is : (s : Shelved) (l : List ShelfStep) → ShelfStands s l → length s.visits ≡ length (opened l)
opened_is s l stands = sym (length-map s.visits name_of) ∙ ap length stands.names

refusal_none : (worn full : Bool) → refusal_by worn full ≡ None → (worn ≡ false) × (full ≡ false)
refusal_none true full none = absurd (some_none none)
  where
    some_none : ◌≡◌ {A = Option DoorFault} (Some (Lane lane.Worn)) None → ⊥
    some_none same = cc
refusal_none false true none = absurd (some_none none)
  where
    some_none : ◌≡◌ {A = Option DoorFault} (Some (TooManyDocuments MOST_DOCUMENTS)) None → ⊥
    some_none same = cc
refusal_none false false none = (refl, refl)

-- with no refusal there is room for one document and for one step
pub has_room : (s : Shelved) (l : List ShelfStep) → ShelfStands s l → refusal l ≡ None → (length s.visits < MOST_DOCUMENTS) × (s.failed + length s.visits < largest)
has_room s l stands none =
    let both = refusal_none (is_worn l) (is_full l) none in
    let worn = leb-false largest (length l) both.0 in let full = leb-false MOST_DOCUMENTS (length (opened l)) both.1 in
    let count = opened_is s l stands in let number = number_is s l stands in
    (omega (arith, full, count), omega (arith, worn, number))

pub refusal-none : (l : List ShelfStep) → length l < largest → length (opened l) < MOST_DOCUMENTS → refusal l ≡ None
refusal-none l few room =
    ap (λ b. refusal_by b (is_full l)) (lt-leb largest (length l) few) ∙ ap (refusal_by false) (lt-leb MOST_DOCUMENTS (length (opened l)) room)

-- no document is open: no step was taken
pub nothing_stands : (shelving : Shelving) (limits : Limits) → ShelfStands (nothing_open shelving limits) []
nothing_stands shelving limits = record { names = refl; failed = refl; last = refl; causes = tt; few = omega arith }

pub stands_nothing : (shelving : Shelving) (limits : Limits) (l : List ShelfStep) → ShelfStands (nothing_open shelving limits) l → l ≡ []
stands_nothing shelving limits [] stands = refl
stands_nothing shelving limits (step ∷ l) stands = absurd (let number = number_is (nothing_open shelving limits) (step ∷ l) stands in omega (arith, number))

-- ---- a document that is open

some_same : (a b : Visiting) → ◌≡◌ {A = Option Visiting} (Some a) (Some b) → a ≡ b
some_same a b same = cc

-- another visit of it
pub split_in : (terms : ShelfTerms) (name : List ℕ) (own visit : Visiting) → name_of own ≡ name → IsServed terms own.door → IsSplitOf own visit → IsVisitOf terms name visit
split_in terms name own visit named served split = record {
  name_is = ap (λ (d : Doorway). d.name) split.door ∙ named;
  served = subst (IsServed terms) (sym split.door) served;
  together = split.together;
  new = split.pass.1;
}

pub finds_visit : (s : Shelved) (name : List ℕ) (result : Result (Option Visiting) Refused) → AllServed (terms_of s) s.visits → FindsVisit (find_visit name s.visits) result → IfOk result (λ found. IfSome found (IsVisitOf (terms_of s) name))
finds_visit s name result served finds = by (find_visit name s.visits) refl result finds
  where
    by : (o : Option Visiting) → find_visit name s.visits ≡ o → (result : Result (Option Visiting) Refused) → FindsVisit o result → IfOk result (λ found. IfSome found (IsVisitOf (terms_of s) name))
    by None is (Ok None) finds = tt
    by None is (Ok (Some visit)) finds = absurd finds
    by None is (Err refused) finds = absurd finds
    by (Some own) is (Ok None) finds = absurd finds
    by (Some own) is (Ok (Some visit)) finds =
        let here = found_in (terms_of s) name s.visits own served is in split_in (terms_of s) name own visit here.name_is here.served finds
    by (Some own) is (Err refused) finds = tt

pub finds_says : (s : Shelved) (name : List ℕ) (result : Result (Option Visiting) Refused) (l : List ShelfStep) → ShelfStands s l → FindsVisit (find_visit name s.visits) result → IsFound (is_opened name l) result
finds_says s name result l stands finds = subst (λ b. IsFound b result) (found_among name s.visits ∙ open_is s l name stands) (by (find_visit name s.visits) result finds)
  where
    by : (o : Option Visiting) (result : Result (Option Visiting) Refused) → FindsVisit o result → IsFound (is_some o) result
    by None (Ok None) finds = tt
    by None (Ok (Some visit)) finds = absurd finds
    by None (Err refused) finds = absurd finds
    by (Some own) (Ok None) finds = absurd finds
    by (Some own) (Ok (Some visit)) finds = tt
    by (Some own) (Err refused) finds = tt

-- ---- what always holds

none_of : {A : Type 0} (o : Option A) → is_some o ≡ false → o ≡ None
none_of None is = refl
none_of (Some a) is = absurd (false≢true (sym is))

pub is_in : (s : Shelved) (name : List ℕ) → IsShelf s → is_open name s ≡ false → IsIn s.shelving name
is_in s name shelf closed = none_of (get s.shelving.out name) (shelf.out name ∙ closed)

pub nothing_shelf : (shelving : Shelving) (limits : Limits) → AreWhole shelving → AreKept shelving → limits.bytes ≤ LONGEST_KEPT → IsShelf (nothing_open shelving limits)
nothing_shelf shelving limits whole kept small = record {
  out = λ name. ap (λ out. is_some (get out name)) whole ∙ ap is_some (get-empty byte_order name);
  distinct = tt;
  served = tt;
  kept = kept;
  few = omega arith;
  numbered = omega arith;
  small = small;
}

abbrev pub shelved : Shelved → Shelving → Shelved
shelved s shelving = record s { shelving = shelving }

abbrev pub enrolled : Shelved → Shelving → Visiting → Shelved
enrolled s shelving visit = record s { shelving = shelving; visits = s.visits ++ visit ∷ [] }

terms_are : (s : Shelved) (new : Shelving) → is_some new.held ≡ is_some s.shelving.held → shelf_terms new s.limits ≡ terms_of s
terms_are s new told = ap (λ (b : Bool). record { limits = s.limits; told = b }) told

-- the shelves went on with the same keepers out
pub same_shelf : (s : Shelved) (new : Shelving) → IsShelf s → new.out ≡ s.shelving.out → AreKept new → GoesOn s.shelving new → IsShelf (shelved s new)
same_shelf s new shelf out kept on = record {
  out = λ name. ap (λ out. is_some (get out name)) out ∙ shelf.out name;
  distinct = shelf.distinct;
  served = subst (λ t. AllServed t s.visits) (sym (terms_are s new on.told)) shelf.served;
  kept = kept;
  few = shelf.few;
  numbered = shelf.numbered;
  small = shelf.small;
}

put_or : {A : Type 0} (b : Bool) (a : A) (o : Option A) → is_some (cond b (Some a) o) ≡ (is_some o || b)
put_or true a None = refl
put_or true a (Some o) = refl
put_or false a None = refl
put_or false a (Some o) = refl

-- one document more is open
pub more_shelf : (s : Shelved) (new : Shelving) (visit : Visiting) (given : ℕ) → IsShelf s → is_open (name_of visit) s ≡ false → length s.visits < MOST_DOCUMENTS → s.failed + length s.visits < largest
    → new.out ≡ insert s.shelving.out (name_of visit) given → AreKept new → GoesOn s.shelving new → IsServed (terms_of s) visit.door → IsShelf (enrolled s new visit)
more_shelf s new visit given shelf closed room few out kept on served = record {
  out = λ name.
      ap (λ out. is_some (get out name)) out ∙ ap is_some (get_inserted s.shelving.out (name_of visit) given name) ∙ put_or (bytes_eq name (name_of visit)) given (get s.shelving.out name)
      ∙ ap (λ b. b || bytes_eq name (name_of visit)) (shelf.out name) ∙ sym (open_push name s.visits visit);
  distinct = subst AreDistinct (sym (names_push s.visits visit)) (distinct_push (map name_of s.visits) (name_of visit) shelf.distinct closed);
  served = subst (λ t. AllServed t (s.visits ++ visit ∷ [])) (sym (terms_are s new on.told)) (served_push (terms_of s) s.visits visit shelf.served served);
  kept = kept;
  few = let count = length-append s.visits (visit ∷ []) in omega (arith, count, room);
  numbered = let count = length-append s.visits (visit ∷ []) in omega (arith, count, few);
  small = shelf.small;
}

-- ---- the list behind a step

pub stands_same : (s : Shelved) (new : Shelving) (l : List ShelfStep) → GoesOn s.shelving new → ShelfStands s l → ShelfStands (shelved s new) (l ++ [])
stands_same s new l on stands = subst (ShelfStands (shelved s new)) (sym (append-nil l)) (record { names = stands.names; failed = stands.failed; last = stands.last; causes = causes_on s.shelving new l on stands.causes; few = stands.few })

pub stands_opened : (s : Shelved) (new : Shelving) (visit : Visiting) (name : List ℕ) (l : List ShelfStep) → length s.visits < MOST_DOCUMENTS → GoesOn s.shelving new → name_of visit ≡ name → ShelfStands s l → ShelfStands (enrolled s new visit) (l ++ Opened name ∷ [])
stands_opened s new visit name l room on named stands = record {
  names = names_push s.visits visit ∙ ap (λ n. map name_of s.visits ++ n ∷ []) named ∙ ap (λ names. names ++ name ∷ []) stands.names ∙ sym (opened-opened l name);
  failed = stands.failed ∙ sym (failures-opened l name);
  last = stands.last ∙ sym (last-opened l name);
  causes = causes-opened new l name (causes_on s.shelving new l on stands.causes);
  few = let count = opened_is s l stands in let more = ap length (opened-opened l name) in let one = length-append (opened l) (name ∷ []) in omega (arith, room, count, more, one);
}

pub stands_failed : (s : Shelved) (new : Shelving) (name : List ℕ) (fault : DoorFault) (l : List ShelfStep) → GoesOn s.shelving new → FailedSo new name fault → ShelfStands s l
    → ShelfStands (with_failure name fault (shelved s new)) (l ++ Failed name fault ∷ [])
stands_failed s new name fault l on so stands = record {
  names = stands.names ∙ sym (opened-failed l name fault);
  failed = ap (λ n. n + 1) stands.failed ∙ sym (failures-failed l name fault);
  last = sym (last-failed l name fault);
  causes = causes-failed new l name fault (causes_on s.shelving new l on stands.causes) so;
  few = subst (λ names. length names ≤ MOST_DOCUMENTS) (sym (opened-failed l name fault)) stands.few;
}

-- ---- an opening, by its answer

pub rest_continues : (old new : Shelved) → GoesOn old.shelving new.shelving → KeepsRest old new → Continues old new []
rest_continues old new on rest = subst (λ t. Continues old t []) (sym rest) (record { terms = terms_are old new.shelving on.told; list = λ l stands. stands_same old new.shelving l on stands })

pub opens_continues : (name : List ℕ) (moment : ℕ) (old new : Shelved) (visit : Visiting) → length old.visits < MOST_DOCUMENTS → GoesOn old.shelving new.shelving → KeepsVisit name moment old new visit → Continues old new (Opened name ∷ [])
opens_continues name moment old new visit room on keeps =
    subst (λ t. Continues old t (Opened name ∷ [])) (sym keeps.becomes)
    (record { terms = terms_are old new.shelving on.told; list = λ l stands. stands_opened old new.shelving keeps.own name l room on keeps.opens.door.name_is stands })

pub fails_continues : (name : List ℕ) (moment : ℕ) (fault : DoorFault) (old mid new : Shelved) → GoesOn old.shelving mid.shelving → FailsToStart name moment old mid fault → new ≡ with_failure name fault mid
    → Continues old new (Failed name fault ∷ [])
fails_continues name moment fault old mid new on fails is =
    subst (λ t. Continues old t (Failed name fault ∷ [])) (sym (is ∙ ap (with_failure name fault) fails.rest))
    (record { terms = terms_are old mid.shelving on.told; list = λ l stands. stands_failed old mid.shelving name fault l on fails.cause stands })

pub opens_visit : (name : List ℕ) (moment : ℕ) (old new : Shelved) (visit : Visiting) → KeepsVisit name moment old new visit → OpensVisit name moment old new visit
opens_visit name moment old new visit keeps =
    let own = keeps.opens.door in let split = keeps.split in record {
      lane = keeps.opens.lane;
      opens = keeps.opens.opens;
      door = record {
        name_is = ap (λ (d : Doorway). d.name) split.door ∙ own.name_is;
        fixed = ap (λ (d : Doorway). d.turn.fixed) split.door ∙ own.fixed;
        stands = subst (λ (d : Doorway). LaneStands keeps.opens.lane d.turn.began) (sym split.door) own.stands;
        new = (split.pass.0 ∙ own.new.0 ∙ ap (λ (d : Doorway). of_nobody d.turn.began) (sym split.door), split.pass.1);
      };
    }

-- ---- an opening whose lane was started

-- the document of a lane is one of this service
pub lane_served : NewIsKept → (limits : Limits) (name : List ℕ) (moment : ℕ) (old new : Shelving) (lane : Standing) (visit : Visiting) → AreKept old → Opens limits name moment old new lane → IsDoorOf name lane visit
    → IsServed (shelf_terms old limits) visit.door
lane_served fresh limits name moment old new lane visit kept opens door = record {
  limits = ap (λ t. t.limits) door.fixed ∙ opens.starts.fresh.limits_are;
  told = λ told.
      let one = given_kept fresh name old new opens.keeper kept opens.gives told in
      ap (λ t. t.told) door.fixed ∙ opens.starts.fresh.told ∙ ap is_some one.tells;
}

-- ---- an opening that failed

module _ (law : CheckpointIsLoaded) (fresh : NewIsKept) (limits : Limits) (name : List ℕ) (moment : ℕ) (old new : Shelving) (kept : AreKept old) (later : old.faults ≤ new.faults) where
  fails_on : (fault : LaneFault) → StartFails name moment old new fault → GoesOn old new × AreKept new
  fails_on fault fails = (
    goes_failed law fresh name moment old fails.between fails.keeper kept fails.gives new fails.comes_back.left fault fails.comes_back.partly fails.comes_back.back later,
    kept_failed law fresh name moment old fails.between fails.keeper kept fails.gives new fails.comes_back.left fault fails.comes_back.partly fails.comes_back.back,
  )

  stays_on : StaysPut old new → GoesOn old new × AreKept new
  stays_on stays = (goes_same old new stays.held later, subst (λ o. Tells o AllKept) (sym stays.held) kept)

  -- the shelves go on with keepers that are kept
  pub failed_on : (fault : DoorFault) → OpenDoes limits name moment old new (Err fault) → GoesOn old new × AreKept new
  failed_on (ShelfFailed note) does = stays_on does.0
  failed_on (Lane fault) does = fails_on fault does.1
  failed_on (TooManyDocuments count) does = absurd does
  failed_on NoMemory (inl stays) = stays_on stays
  failed_on NoMemory (inr fails) = fails_on lane.NoMemory fails

  wrong_on : (fault : LaneFault) → StartFails name moment old new fault → IsStartOf new name fault
  wrong_on fault fails =
      (fails_on fault fails).0.starts name fault
      (wrong_given law fresh name moment old fails.between fails.keeper kept fails.gives new fails.comes_back.left fault fails.comes_back.partly fails.comes_back.back)

  lane_so : (fault : LaneFault) → StartFails name moment old new fault → IsRisen old.faults new.faults (Lane fault) → FailedSo new name (Lane fault)
  lane_so (lane.LogFailed note) fails cause = cause.1
  lane_so (lane.Full entries) fails cause = wrong_on (lane.Full entries) fails
  lane_so (lane.BadRecord place) fails cause = wrong_on (lane.BadRecord place) fails
  lane_so (lane.NoCheckpoint asked stored) fails cause = wrong_on (lane.NoCheckpoint asked stored) fails
  lane_so lane.CheckpointsFull fails cause = wrong_on lane.CheckpointsFull fails
  lane_so lane.TooManyClients fails cause = wrong_on lane.TooManyClients fails
  lane_so (lane.DeltaFailed note) fails cause = cause.1
  lane_so lane.NoMemory fails cause = cause
  lane_so (lane.BadCheckpoint number bad) fails cause = wrong_on (lane.BadCheckpoint number bad) fails
  lane_so (lane.TooLarge bytes) fails cause = wrong_on (lane.TooLarge bytes) fails
  lane_so lane.Worn fails cause = wrong_on lane.Worn fails

  lane_may : (fault : LaneFault) → of_starting fault ≡ Lane fault → StartFails name moment old new fault → IsOpeningFault (is_some old.held) (Lane fault)
  lane_may fault of fails =
      may_fail law fresh name moment old fails.between fails.keeper kept fails.gives new fails.comes_back.left fault fails.comes_back.partly fails.comes_back.back of (is_some old.held) refl

  -- what a start is then, by its fault
  pub starts_not : (s t : Shelved) (fault : DoorFault) → s.shelving ≡ old → t.shelving ≡ new → OpenDoes limits name moment old new (Err fault) → IsRisen old.faults new.faults fault → KeepsRest s t → StartsVisit name moment s t (Err fault)
  starts_not s t (ShelfFailed note) was is does cause rest = record {
    does = rw (was, is) does;
    cause = rw is (omega (arith, cause.last));
    may = does.1.rose;
    rest = rest;
  }
  starts_not s t (Lane fault) was is does cause rest = record {
    does = rw (was, is) does;
    cause = subst (λ (x : Shelving). FailedSo x name (Lane fault)) (sym is) (lane_so fault does.1 cause);
    may = subst (λ (x : Shelving). IsOpeningFault (is_some x.held) (Lane fault)) (sym was) (lane_may fault does.0 does.1);
    rest = rest;
  }
  starts_not s t (TooManyDocuments count) was is does cause rest = absurd does
  starts_not s t NoMemory was is does cause rest = rest
