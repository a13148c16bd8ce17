-- What a call on a service makes of a key, from what its parts say.
use Rattle.std.proofs.Common.{◌≡◌, inr, ℕ, suc, ◌≤◌, Bool, true, false, List, [], ◌∷◌, ◌++◌, length, Option, Some, None, Result, Ok, Err, IfOk, IfErr, refl, sym, ap, subst, ◌∙◌, append-nil, length-append, arith}
use Rattle.fluid_json.specs.declared.memory.NoMemory.{NoMemory as Refused}
use Rattle.fluid_turn.specs.declared.view.Numbered.{Numbered}
use Rattle.fluid_turn.specs.Entries.{IsPrefix, entries}
use Rattle.fluid_turn.specs.Seats.{seeing}
use Rattle.fluid_types.specs.Forms.{largest}
use Rattle.fluid_opening.specs.declared.fault.DoorFault.{DoorFault}
use Rattle.fluid_opening.specs.declared.fault.DoorFault.TheVariants.{NoMemory}
use Rattle.fluid_opening.specs.declared.shelf.ShelfStep.{ShelfStep}
use Rattle.fluid_service.specs.declared.terms.ShelfTerms.{ShelfTerms}
use Rattle.fluid_service.specs.Visiting.{Visiting, IsFound}
use Rattle.fluid_opening.specs.Steps.{is_opened, refusal, opening_steps, visit_steps, visit_steps_by, IsNoMemory, IsOpeningFault, IsAnswerBy}
use Rattle.fluid_service.specs.Keys.{AKey, adding, Passes, IsVisitOf, Reaches, OpensNew}

pub adding_none : (k : AKey) → k ≡ adding [] k
adding_none k = ap (λ l. record k { seen = l }) (sym (append-nil k.seen)) ∙ ap (λ m. record k { seen = k.seen ++ []; mine = m }) (sym (append-nil k.mine))

pub passes_by : (k m seat : AKey) (list : List (Numbered ShelfStep)) (added : List ShelfStep → List ShelfStep) (holds : List ShelfStep → Type 0) → seat ≡ seeing list k → m ≡ adding (added (entries list)) seat
    → length m.seen ≤ largest → IsPrefix k.seen list → holds (entries list) → Passes k m added holds
passes_by k m seat list added holds saw is few begins says =
    let same : m ≡ adding (added (entries list)) (seeing list k) = is ∙ ap (adding (added (entries list))) saw in record {
      turn = ap (λ x. x.turn) same;
      number = ap (λ x. x.number) same;
      before = list;
      begins = begins;
      seen = ap (λ x. x.seen) same;
      mine = ap (λ x. x.mine) same;
      few = few;
      says = says;
    }

-- ---- a call for a document

module _ (terms : ShelfTerms) (name : List ℕ) (k m seat : AKey) (list : List (Numbered ShelfStep)) (saw : seat ≡ seeing list k) (few : length m.seen ≤ largest) (begins : IsPrefix k.seen list) where
  -- it is open
  pub reaches_open : (result : Result Visiting DoorFault) → is_opened name (entries list) ≡ true → m ≡ seat → IfErr result (λ fault. fault ≡ NoMemory) → IfOk result (IsVisitOf terms name)
      → Passes k m (visit_steps name result) (Reaches terms name result)
  reaches_open result there same faults visit =
      passes_by k m seat list (visit_steps name result) (Reaches terms name result) saw
      (same ∙ adding_none seat ∙ ap (λ added. adding added seat) (sym (ap (λ b. visit_steps_by b (refusal (entries list)) name result) there))) few begins
      (record { answer = subst (λ b. IsAnswerBy b (refusal (entries list)) terms.told result) (sym there) (only result faults); visit = visit })
    where
      only : (result : Result Visiting DoorFault) → IfErr result (λ fault. fault ≡ NoMemory) → IsAnswerBy true (refusal (entries list)) terms.told result
      only (Ok visit) faults = tt
      only (Err fault) faults = subst IsNoMemory (sym faults) tt

  -- it isn't open
  pub reaches_new : (result : Result Visiting DoorFault) → is_opened name (entries list) ≡ false → m ≡ adding (visit_steps_by false (refusal (entries list)) name result) seat → OpensNew terms name (refusal (entries list)) result
      → Passes k m (visit_steps name result) (Reaches terms name result)
  reaches_new result closed is opens =
      passes_by k m seat list (visit_steps name result) (Reaches terms name result) saw
      (is ∙ ap (λ added. adding added seat) (sym (ap (λ b. visit_steps_by b (refusal (entries list)) name result) closed))) few begins
      (record { answer = subst (λ b. IsAnswerBy b (refusal (entries list)) terms.told result) (sym closed) opens.answer; visit = opens.visit })

-- ---- whether it is open

pub found_true : {A : Type 0} (b : Bool) (visit : A) → IsFound b (Ok (Some visit)) → b ≡ true
found_true true visit found = refl
found_true false visit found = absurd found

pub found_false : (A : Type 0) (b : Bool) → IsFound {A = A} b (Ok None) → b ≡ false
found_false A true found = absurd found
found_false A false found = refl

pub found_err : (A : Type 0) (b : Bool) (refused : Refused) → IsFound {A = A} b (Err refused) → b ≡ true
found_err A true refused found = refl
found_err A false refused found = absurd found

-- ---- one that isn't, by what refuses it

abbrev pub failing : DoorFault → Result Visiting DoorFault
failing fault = Err fault

module _ (terms : ShelfTerms) (name : List ℕ) (refused : Option DoorFault) where
  pub refused_steps : (fault : DoorFault) (seat : AKey) → Some fault ≡ refused → seat ≡ adding (visit_steps_by false refused name (failing fault)) seat
  refused_steps fault seat is = adding_none seat ∙ ap (λ r. adding (visit_steps_by false r name (failing fault)) seat) is

  pub refused_new : (fault : DoorFault) → Some fault ≡ refused → OpensNew terms name refused (Err fault)
  refused_new fault is = subst (λ r. OpensNew terms name r (Err fault)) is (record { answer = inr refl; visit = tt })

  pub no_memory_steps : (seat : AKey) → None ≡ refused → seat ≡ adding (visit_steps_by false refused name (failing NoMemory)) seat
  no_memory_steps seat is = adding_none seat ∙ ap (λ r. adding (visit_steps_by false r name (failing NoMemory)) seat) is

  pub opened_steps : (result : Result Visiting DoorFault) (seat : AKey) → None ≡ refused → adding (opening_steps name result) seat ≡ adding (visit_steps_by false refused name result) seat
  opened_steps result seat is = ap (λ r. adding (visit_steps_by false r name result) seat) is

-- what a key has seen is no longer than the steps that were counted
entries_length : (l : List (Numbered ShelfStep)) → length (entries l) ≡ length l
entries_length [] = refl
entries_length (x ∷ xs) = ap suc (entries_length xs)

pub few_seen : (seen list : List (Numbered ShelfStep)) (number : ℕ) → seen ≡ list → number ≡ length (entries list) → number ≤ largest → length seen ≤ largest
few_seen seen list number same is few = let n = entries_length list in let s = ap length same in omega (arith, n, s, is, few)

pub few_seen_more : (seen list : List (Numbered ShelfStep)) (step : Numbered ShelfStep) (number : ℕ) → seen ≡ list ++ step ∷ [] → number ≡ length (entries list ++ step.entry ∷ []) → number ≤ largest → length seen ≤ largest
few_seen_more seen list step number same is few =
    let n = entries_length list in let s = ap length same in let a = length-append list (step ∷ []) in let b = length-append (entries list) (step.entry ∷ []) in omega (arith, n, s, a, b, is, few)
