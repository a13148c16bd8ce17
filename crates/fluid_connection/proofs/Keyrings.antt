-- How a document is reached: by the visit that was handed in, or by the service.
use Rattle.std.proofs.Common.{◌≡◌, ◌∙◌, inl, inr, ℕ, Bool, true, false, List, [], ◌++◌, map, Option, Some, None, Result, Ok, Err, append-nil, refl, sym, ap, subst}
use Rattle.fluid_turn.specs.Entries.{IsPrefix, by_seat, entries}
use Rattle.fluid_turn.proofs.Lists.{prefix-append}
use Rattle.fluid_json.specs.Unless.{IsUnless}
use Rattle.fluid_opening.specs.declared.opening.TheConstants.{MOST_DOCUMENTS}
use Rattle.fluid_opening.specs.declared.fault.DoorFault.{DoorFault}
use Rattle.fluid_opening.specs.declared.fault.DoorFault.TheVariants.{ShelfFailed, Lane, TooManyDocuments, NoMemory}
use Rattle.fluid_opening.specs.Steps.{is_opened, is_worn, is_full, refusal_by, refusal, visit_steps_by, visit_steps, IsAnswerBy}
use Rattle.fluid_service.specs.Visiting.{Visiting}
use Rattle.fluid_service.specs.Keys.{AKey, Passes, IsVisitOf, Reaches}
use Rattle.fluid_talk.specs.Talking.{Keyed, IsServed}
use Rattle.fluid_talk.specs.Shelves.{KeepsKey, AsksFor, IsRefusedDoor}
use Rattle.fluid_connection.specs.Knowing.{keyed}
use Rattle.fluid_connection.specs.Talked.{pass_of, visited}
use Rattle.fluid_connection.specs.Connecting.{Splits, ReachesBy}

-- an answer without its visit
abbrev shown : {A : Type 0} → Result A DoorFault → Result (Unit {0}) DoorFault
shown (Ok visit) = Ok tt
shown (Err fault) = Err fault

steps_shown : {A : Type 0} (b : Bool) (o : Option DoorFault) (name : List ℕ) (r : Result A DoorFault) → visit_steps_by b o name r ≡ visit_steps_by b o name (shown r)
steps_shown true o name r = refl
steps_shown false (Some fault) name r = refl
steps_shown false None name (Ok visit) = refl
steps_shown false None name (Err (ShelfFailed note)) = refl
steps_shown false None name (Err (Lane fault)) = refl
steps_shown false None name (Err (TooManyDocuments count)) = refl
steps_shown false None name (Err NoMemory) = refl

fault_same : {A : Type 0} (a b : DoorFault) → ◌≡◌ {A = Result A DoorFault} (Err a) (Err b) → a ≡ b
fault_same a b same = cc

not_fault : {A : Type 0} (a : A) (fault : DoorFault) → ◌≡◌ {A = Result A DoorFault} (Ok a) (Err fault) → ⊥
not_fault a fault same = cc

unless_ok : {A : Type 0} (a : A) (fault : DoorFault) → IsUnless NoMemory (Ok a) (Err fault) → ⊥
unless_ok a fault (inl same) = not_fault a NoMemory same
unless_ok a fault (inr same) = not_fault a fault same

unless_shown : {A : Type 0} (other fault : DoorFault) → IsUnless {T = A} NoMemory (Err other) (Err fault) → IsUnless {T = Unit {0}} NoMemory (Err other) (Err fault)
unless_shown {A} other fault (inl same) = inl (ap Err (fault_same {A = A} other NoMemory same))
unless_shown {A} other fault (inr same) = inr (ap Err (fault_same {A = A} other fault same))

answer_shown : {A : Type 0} (b : Bool) (o : Option DoorFault) (told : Bool) (r : Result A DoorFault) → IsAnswerBy b o told r → IsAnswerBy b o told (shown r)
answer_shown true o told (Ok visit) is = tt
answer_shown true o told (Err fault) is = is
answer_shown false None told (Ok visit) is = tt
answer_shown false None told (Err fault) is = is
answer_shown false (Some fault) told (Ok visit) is = absurd (unless_ok visit fault is)
answer_shown {A} false (Some fault) told (Err other) is = unless_shown {A = A} other fault is

module _ (k m : AKey) (name : List ℕ) (r : Result Visiting DoorFault) (h : Passes k m (visit_steps name r) (Reaches k.turn.fixed name r)) where
  asked : AsksFor name (shown r) (keyed k) (keyed m)
  asked =
      let same = steps_shown (is_opened name (entries h.before)) (refusal (entries h.before)) name r in
      record {
        same = record { limits = ap (λ t. t.fixed.limits) h.turn; told = ap (λ t. t.fixed.told) h.turn; number = h.number };
        before = h.before;
        begins = h.begins;
        seen = h.seen ∙ ap (λ l. h.before ++ map (by_seat k.number) l) same;
        mine = h.mine ∙ ap (λ l. k.mine ++ l) same;
        few = h.few;
        is = answer_shown (is_opened name (entries h.before)) (refusal (entries h.before)) k.turn.fixed.told r h.says.answer;
      }

-- ---- keys that have no step more

no_steps_memory : (b : Bool) (o : Option DoorFault) (name : List ℕ) → visit_steps_by {A = Unit {0}} b o name (Err NoMemory) ≡ []
no_steps_memory true o name = refl
no_steps_memory false (Some fault) name = refl
no_steps_memory false None name = refl

no_steps_many : (b : Bool) (o : Option DoorFault) (name : List ℕ) (count : ℕ) → visit_steps_by {A = Unit {0}} b o name (Err (TooManyDocuments count)) ≡ []
no_steps_many true o name count = refl
no_steps_many false (Some fault) name count = refl
no_steps_many false None name count = refl

keeps : (name : List ℕ) (fault : DoorFault) (k m : Keyed) (h : AsksFor name (Err fault) k m) → visit_steps {A = Unit {0}} name (Err fault) (entries h.before) ≡ [] → KeepsKey k m
keeps name fault k m h none = record {
  same = h.same;
  seen = subst (λ l. IsPrefix k.seen l) (sym h.seen) (prefix-append k.seen h.before (map (by_seat k.number) (visit_steps {A = Unit {0}} name (Err fault) (entries h.before))) h.begins);
  mine = h.mine ∙ ap (λ l. k.mine ++ l) none ∙ append-nil k.mine;
}

pub keeps_many : (name : List ℕ) (count : ℕ) (k m : Keyed) → IsRefusedDoor name (TooManyDocuments count) k m → KeepsKey k m
keeps_many name count k m h = keeps name (TooManyDocuments count) k m h (no_steps_many (is_opened name (entries h.before)) (refusal (entries h.before)) name count)

-- who is told that too many documents are open is told how many may be
many_same : (a b : ℕ) → ◌≡◌ {A = DoorFault} (TooManyDocuments a) (TooManyDocuments b) → a ≡ b
many_same a b same = cc

count_by : (b worn full : Bool) (told : Bool) (count : ℕ) → IsAnswerBy {A = Unit {0}} b (refusal_by worn full) told (Err (TooManyDocuments count)) → count ≡ MOST_DOCUMENTS
count_by true worn full told count is = absurd is
count_by false true full told count (inl same) = cc
count_by false true full told count (inr same) = cc
count_by false false true told count (inl same) = cc
count_by false false true told count (inr same) = many_same count MOST_DOCUMENTS (fault_same {A = Unit {0}} _ _ same)
count_by false false false told count is = absurd is

pub count_is : (name : List ℕ) (count : ℕ) (k m : Keyed) → IsRefusedDoor name (TooManyDocuments count) k m → IsRefusedDoor name (TooManyDocuments MOST_DOCUMENTS) k m
count_is name count k m h =
    subst (λ n. IsRefusedDoor name (TooManyDocuments n) k m) (count_by (is_opened name (entries h.before)) (is_worn (entries h.before)) (is_full (entries h.before)) k.told count h.is) h

-- ---- reached by the service

other_name : (name : List ℕ) (handed : Option Visiting) → Splits name handed None → {A : Type 0} → (pass_of handed).name ≡ Some name → A
other_name name None split same = none_some same
  where
    none_some : {A : Type 0} → ◌≡◌ {A = Option (List ℕ)} None (Some name) → A
    none_some same = cc
other_name name (Some visit) split same = absurd (split (some_same same))
  where
    some_same : ◌≡◌ {A = Option (List ℕ)} (Some visit.door.name) (Some name) → visit.door.name ≡ name
    some_same same = cc

visit_served : (k : AKey) (name : List ℕ) (visit : Visiting) → IsVisitOf k.turn.fixed name visit → IsServed (keyed k) (visited visit)
visit_served k name visit is = record {
  limits = ap (λ t. t.fixed.limits) is.together ∙ is.served.limits;
  told = λ told. ap (λ t. t.fixed.told) is.together ∙ is.served.told told;
}

pub reached_service : (k m : AKey) (name : List ℕ) (handed : Option Visiting) (r : Result Visiting DoorFault) → Splits name handed None
    → Passes k m (visit_steps name r) (Reaches k.turn.fixed name r) → ReachesBy name handed k m r
reached_service k m name handed (Ok visit) split h = record {
  named = h.says.visit.name_is;
  new = h.says.visit.new;
  begins = λ same. other_name name handed split same;
  through = inr (record { opens = asked k m name (Ok visit) h; served = visit_served k name visit h.says.visit });
}
reached_service k m name handed (Err (ShelfFailed note)) split h = asked k m name (Err (ShelfFailed note)) h
reached_service k m name handed (Err (Lane fault)) split h = asked k m name (Err (Lane fault)) h
reached_service k m name handed (Err (TooManyDocuments count)) split h = asked k m name (Err (TooManyDocuments count)) h
reached_service k m name handed (Err NoMemory) split h =
    let a = asked k m name (Err NoMemory) h in
    keeps name NoMemory (keyed k) (keyed m) a (no_steps_memory (is_opened name (entries a.before)) (refusal (entries a.before)) name)

-- ---- by the visit that was handed in
