-- The steps of a shelf, oldest first: the documents that were opened, and the openings that failed.
use Rattle.std.specs.Prelude.{◌≡◌, ⊤, ℕ, ◌+◌, nat_le, Bool, true, false, List, [], ◌∷◌, length, Option, Some, None, Result, Ok, Err, IfErr, bytes_eq}
use Rattle.std.specs.List.{list_any}
use Rattle.std.specs.Option.{option_or}
use Rattle.fluid_io.specs.Causes.{Rose}
use Rattle.fluid_json.specs.Unless.{IsUnless}
use Rattle.fluid_types.specs.Forms.{largest}
use Rattle.fluid_lane.specs.declared.fault.LaneFault.{LaneFault}
use Rattle.fluid_lane.specs.declared.fault.LaneFault.TheVariants as lane
use Rattle.fluid_opening.specs.declared.opening.TheConstants.{MOST_DOCUMENTS}
use Rattle.fluid_opening.specs.declared.fault.DoorFault.{DoorFault}
use Rattle.fluid_opening.specs.declared.fault.DoorFault.TheVariants.{ShelfFailed, Lane, TooManyDocuments, NoMemory}
use Rattle.fluid_opening.specs.declared.shelf.ShelfStep.{ShelfStep}
use Rattle.fluid_opening.specs.declared.shelf.ShelfStep.TheVariants.{Opened, Failed}

-- ---- what a list of steps says

-- the documents that were opened, in order
abbrev pub opened : List ShelfStep → List (List ℕ)
opened [] = []
opened (Opened name ∷ steps) = name ∷ opened steps
opened (Failed name fault ∷ steps) = opened steps

-- the name is one of these
abbrev pub is_among : List ℕ → List (List ℕ) → Bool
is_among name names = list_any (bytes_eq name) names

abbrev pub is_opened : List ℕ → List ShelfStep → Bool
is_opened name l = is_among name (opened l)

-- how many openings failed
abbrev pub failures : List ShelfStep → ℕ
failures [] = 0
failures (Opened name ∷ steps) = failures steps
failures (Failed name fault ∷ steps) = 1 + failures steps

-- the last one that failed
abbrev pub last_failure : List ShelfStep → Option (List ℕ × DoorFault)
last_failure [] = None
last_failure (Opened name ∷ steps) = last_failure steps
last_failure (Failed name fault ∷ steps) = option_or (last_failure steps) (Some (name, fault))

abbrev pub HasFault : ShelfStep → Type 0
HasFault (Opened name) = ⊥
HasFault (Failed name fault) = ⊤

-- ---- what a call for a document finds

-- there are as many steps as there can be
abbrev pub is_worn : List ShelfStep → Bool
is_worn l = nat_le largest (length l)

-- as many documents are open as may be
abbrev pub is_full : List ShelfStep → Bool
is_full l = nat_le MOST_DOCUMENTS (length (opened l))

abbrev pub refusal_by : Bool → Bool → Option DoorFault
refusal_by true full = Some (Lane lane.Worn)
refusal_by false true = Some (TooManyDocuments MOST_DOCUMENTS)
refusal_by false false = None

-- why a document that isn't open isn't opened either
abbrev pub refusal : List ShelfStep → Option DoorFault
refusal l = refusal_by (is_worn l) (is_full l)

-- ---- what an opening adds

-- the document was opened, or the opening failed. Want of memory adds nothing
abbrev pub opening_steps : {A : Type 0} → List ℕ → Result A DoorFault → List ShelfStep
opening_steps name (Ok visit) = Opened name ∷ []
opening_steps name (Err (ShelfFailed note)) = Failed name (ShelfFailed note) ∷ []
opening_steps name (Err (Lane fault)) = Failed name (Lane fault) ∷ []
opening_steps name (Err (TooManyDocuments count)) = []
opening_steps name (Err NoMemory) = []

abbrev pub visit_steps_by : {A : Type 0} → Bool → Option DoorFault → List ℕ → Result A DoorFault → List ShelfStep
visit_steps_by true refused name result = []
visit_steps_by false (Some fault) name result = []
visit_steps_by false None name result = opening_steps name result

-- what a call for a document adds: a step only where it opens, or tries to
abbrev pub visit_steps : {A : Type 0} → List ℕ → Result A DoorFault → List ShelfStep → List ShelfStep
visit_steps name result l = visit_steps_by (is_opened name l) (refusal l) name result

-- ---- which answers it has

abbrev pub IsNoMemory : DoorFault → Type 0
IsNoMemory NoMemory = ⊤
IsNoMemory other = ⊥

-- why a lane isn't started: over a keeper that is kept only since the keeper failed, whose count rose then, or since the document is worn
abbrev pub IsStartFault : Bool → LaneFault → Type 0
IsStartFault told (lane.LogFailed note) = Rose note.before note.after
IsStartFault told (lane.DeltaFailed note) = Rose note.before note.after
IsStartFault told lane.Worn = ⊤
IsStartFault told lane.NoMemory = ⊥
IsStartFault told other = told ≡ false

-- why an opening fails
abbrev pub IsOpeningFault : Bool → DoorFault → Type 0
IsOpeningFault told (ShelfFailed note) = Rose note.before note.after
IsOpeningFault told (Lane fault) = IsStartFault told fault
IsOpeningFault told (TooManyDocuments count) = ⊥
IsOpeningFault told NoMemory = ⊤

abbrev pub IsAnswerBy : {A : Type 0} → Bool → Option DoorFault → Bool → Result A DoorFault → Type 0
IsAnswerBy true refused told result = IfErr result IsNoMemory
IsAnswerBy false (Some fault) told result = IsUnless NoMemory result (Err fault)
IsAnswerBy false None told result = IfErr result (IsOpeningFault told)

-- the answer for a name, by the steps before it: an open document is found; one that isn't is refused exactly where there is
-- a refusal, and else opened, or the opening fails
abbrev pub IsAnswer : {A : Type 0} → Bool → List ℕ → Result A DoorFault → List ShelfStep → Type 0
IsAnswer told name result l = IsAnswerBy (is_opened name l) (refusal l) told result
