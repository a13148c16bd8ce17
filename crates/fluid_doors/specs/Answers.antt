-- Which answers a call on a document has, by the list of steps for which its lane stood.
use Rattle.std.specs.Prelude.{◌≡◌, ⊤, ℕ, ◌<◌, ◌⊎◌, nat_le, Bool, true, false, List, length, Option, Some, None, Result, Ok, Err, IfOk, IfErr}
use Rattle.fluid_io.specs.Causes.{Rose}
use Rattle.fluid_rules.specs.Rules.{IsLegal}
use Rattle.fluid_types.specs.Forms.{largest}
use Rattle.fluid_lane.specs.declared.steps.Step.{Step}
use Rattle.fluid_lane.specs.declared.fault.LaneFault.{LaneFault}
use Rattle.fluid_lane.specs.declared.fault.LaneFault.TheVariants.{LogFailed, DeltaFailed, NoMemory, Worn}
use Rattle.fluid_lane.specs.Faults.{IsLogFailed}
use Rattle.fluid_lane.specs.Steps.{ledger, asides}
use Rattle.fluid_lane.specs.Refusals.{first_refusal}
use Rattle.fluid_doors.specs.declared.bench.Terms.{Terms}

-- ---- worn

-- the list has as many steps as a document may have
abbrev pub is_worn_behind : List Step → Bool
is_worn_behind l = nat_le largest (length l)

abbrev pub IsNotWorn : LaneFault → Type 0
IsNotWorn Worn = ⊥
IsNotWorn other = ⊤

-- worn is answered exactly where the list is so long
abbrev pub WornBy : {A : Type 0} → Bool → Result A LaneFault → Type 0
WornBy true result = result ≡ Err Worn
WornBy false result = IfErr result IsNotWorn

-- ---- the keeper's faults

-- the keeper failed, and its count of faults rose in this call; or memory was wanting
abbrev pub IsFailure : LaneFault → Type 0
IsFailure (LogFailed note) = Rose note.before note.after
IsFailure (DeltaFailed note) = Rose note.before note.after
IsFailure NoMemory = ⊤
IsFailure other = ⊥

-- ---- rules that refuse

-- a call that a rule refuses has that refusal, or the log failed at a cut that was owed, which it is only behind a side step; where
-- none refuses, its faults are these
abbrev pub IsRuled : {A : Type 0} → (LaneFault → Type 0) → (asides : ℕ) → Option LaneFault → Result A LaneFault → Type 0
IsRuled may asides None result = IfErr result may
IsRuled may asides (Some refusal) (Ok a) = ⊥
IsRuled may asides (Some refusal) (Err fault) = (fault ≡ refusal) ⊎ (IsLogFailed fault × (0 < asides))

-- over a keeper that tells its content: the entered steps are a legal ledger, a refusal comes exactly where a rule of
-- the document refuses, and an answer is the right one
pub record AnswersTold {A : Type 0} (rules : List (Bool × LaneFault)) (may : LaneFault → Type 0) (right : A → Type 0) (result : Result A LaneFault) (l : List Step) : Type 0 where
  pub legal : IsLegal (ledger l)
  pub ruled : is_worn_behind l ≡ false → IsRuled may (asides l) (first_refusal rules) result
  pub is_right : IfOk result right

-- over any keeper: worn where the list is so long, and else no fault but those of the call
pub record Answers {A : Type 0} (t : Terms) (faults : LaneFault → Type 0) (rules : List (Bool × LaneFault)) (may : LaneFault → Type 0) (right : A → Type 0) (result : Result A LaneFault) (l : List Step) : Type 0 where
  pub worn : WornBy (is_worn_behind l) result
  pub named : is_worn_behind l ≡ false → IfErr result faults
  pub told : t.told ≡ true → AnswersTold rules may right result l
