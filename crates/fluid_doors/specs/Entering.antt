-- Calls that enter: submissions, joins, reports, and the leave of a client that was silent.
use Rattle.std.specs.Prelude.{◌≡◌, ⊤, ℕ, ◌<◌, nat_le, Bool, true, false, ◌&&◌, List, [], ◌∷◌, length, Option, Some, None, Result, Ok, Err, IfOk, IfErr, IfSome}
use Rattle.fluid_json.specs.Tree.{Tree}
use Rattle.fluid_types.specs.Names.{entry_name}
use Rattle.fluid_types.specs.declared.entries.Raw.{Raw}
use Rattle.fluid_types.specs.declared.entries.Raw.TheVariants.{Join, Leave}
use Rattle.fluid_types.specs.declared.entries.Scopes.{Scopes}
use Rattle.fluid_types.specs.declared.messages.Message.{Message}
use Rattle.fluid_types.specs.declared.verdicts.Verdict.{Verdict}
use Rattle.fluid_types.specs.declared.verdicts.Verdict.TheVariants.{Sequenced, Dropped}
use Rattle.fluid_rules.specs.Rules.{verdict, joined, IsLegal}
use Rattle.fluid_rules.specs.Past.{is_sequenced}
use Rattle.fluid_rules.specs.Counted.{is_counted, counted, has_too_many_clients}
use Rattle.fluid_core.specs.Entering.{IsUpTo}
use Rattle.fluid_types.specs.Forms.{largest}
use Rattle.fluid_lane.specs.declared.steps.Step.{Step}
use Rattle.fluid_lane.specs.declared.steps.Step.TheVariants.{Entered}
use Rattle.fluid_lane.specs.declared.fault.LaneFault.{LaneFault}
use Rattle.fluid_lane.specs.declared.fault.LaneFault.TheVariants.{Full, TooManyClients, Worn}
use Rattle.fluid_lane.specs.Faults.{IsOutside}
use Rattle.fluid_lane.specs.Steps.{ledger}
use Rattle.fluid_lane.specs.Laws.{first_silent_in}
use Rattle.fluid_doors.specs.declared.bench.Terms.{Terms}
use Rattle.fluid_doors.specs.Answers.{is_worn_behind, WornBy, IsFailure, Answers}

-- ---- limits

-- the ledger has as many joins and submissions as the document takes
abbrev pub is_full_at : Terms → List Step → Bool × LaneFault
is_full_at t l = (nat_le t.limits.entries (counted (ledger l)), Full t.limits.entries)

-- the same of an entry, which may be one that isn't counted
abbrev pub is_full_by : Terms → List Step → Raw → Bool × LaneFault
is_full_by t l raw = (nat_le t.limits.entries (counted (ledger l)) && is_counted raw, Full t.limits.entries)

-- as many clients are joined as the document takes
abbrev pub has_too_many_at : Terms → List Step → Bool × LaneFault
has_too_many_at t l = (nat_le t.limits.clients (length (joined (ledger l))), TooManyClients)

-- ---- faults over any keeper

-- those of a submission: the document is full for it, or what fails any call
abbrev pub IsSubmitFault : Terms → Raw → LaneFault → Type 0
IsSubmitFault t raw (Full entries) = (entries ≡ t.limits.entries) × (is_counted raw ≡ true)
IsSubmitFault t raw other = IsFailure other

-- those of a join
abbrev pub IsJoinFault : Terms → LaneFault → Type 0
IsJoinFault t (Full entries) = entries ≡ t.limits.entries
IsJoinFault t TooManyClients = ⊤
IsJoinFault t other = IsFailure other

-- ---- submissions, joins, reports

-- a leave or a submission was entered with the verdict of the rules
abbrev pub Submits : Terms → Raw → Result Verdict LaneFault → List Step → Type 0
Submits t raw result l = Answers t (IsSubmitFault t raw) (is_full_by t l raw ∷ []) IsOutside (λ v. v ≡ verdict (ledger l) raw) result l

-- a report was entered with the verdict of the rules; no limit holds for it
abbrev pub Reports : Terms → Raw → Result Verdict LaneFault → List Step → Type 0
Reports t raw result l = Answers t IsFailure [] IsOutside (λ v. v ≡ verdict (ledger l) raw) result l

-- the join's id is `c` and the number of its entry, and its message is the one of its verdict
abbrev pub IsJoined : Scopes → Tree → ℕ → List Step → List ℕ × Message → Type 0
IsJoined scopes detail moment l (id, message) =
    (id ≡ entry_name (length (ledger l))) × (Sequenced message ≡ verdict (ledger l) (Join id scopes detail moment))

-- over any keeper the id is `c` and a number, and the message has one that a document may have
pub record HasNumbers (a : List ℕ × Message) : Type 0 where
  pub entry : (n : ℕ) × ((n < largest) × (a.0 ≡ entry_name n))
  pub message : IsUpTo largest a.1.number

-- Where the keeper tells its content, the join is one of a client that isn't joined, so that the limit of clients holds for it
pub record Joins (t : Terms) (scopes : Scopes) (detail : Tree) (moment : ℕ) (result : Result (List ℕ × Message) LaneFault) (l : List Step) : Type 0 where
  pub answers : Answers t (IsJoinFault t) (is_full_at t l ∷ has_too_many_at t l ∷ []) IsOutside (IsJoined scopes detail moment l) result l
  pub numbered : IfOk result HasNumbers
  pub limited : t.told ≡ true → has_too_many_clients t.limits.clients (ledger l) (Join (entry_name (length (ledger l))) scopes detail moment) ≡ (has_too_many_at t l).0

-- the step of a join
abbrev pub joined_as : Scopes → Tree → ℕ → List ℕ × Message → List Step
joined_as scopes detail moment (id, message) = Entered (Join id scopes detail moment) (Sequenced message) ∷ []

-- the id of a join
abbrev pub id_in : Raw → List ℕ
id_in (Join id scopes detail moment) = id
id_in other = []

-- the same answer with the raw entry, as a lane gives it
abbrev pub with_id : Result (Raw × Message) LaneFault → Result (List ℕ × Message) LaneFault
with_id (Ok (raw, message)) = Ok (id_in raw, message)
with_id (Err fault) = Err fault

-- its raw entry is a join with these parts
abbrev pub IsJoinOf : Scopes → Tree → ℕ → Raw × Message → Type 0
IsJoinOf scopes detail moment (raw, message) = raw ≡ Join (id_in raw) scopes detail moment

-- ---- sweeps

-- the step of a sweep, which enters the leave of the client that it answers
abbrev pub swept_as : ℕ → Verdict → Option (List ℕ) → List Step
swept_as moment verdict None = []
swept_as moment verdict (Some id) = Entered (Leave id moment) verdict ∷ []

abbrev pub IsWorn : LaneFault → Type 0
IsWorn Worn = ⊤
IsWorn other = ⊥

-- the leave of the client that was silent was entered, with the verdict of the rules
pub record SweepsOut (moment : ℕ) (id : List ℕ) (verdict_is : Verdict) (result : Result (Option (List ℕ)) LaneFault) (l : List Step) : Type 0 where
  pub worn : WornBy (is_worn_behind l) result
  pub faults : is_worn_behind l ≡ false → IfErr result IsOutside
  pub swept : IfOk result (λ given. (given ≡ Some id) × (verdict_is ≡ verdict (ledger l) (Leave id moment)))

abbrev pub SweepsFirst : ℕ → Option (List ℕ) → Verdict → Result (Option (List ℕ)) LaneFault → List Step → Type 0
SweepsFirst moment None verdict result l = result ≡ Ok None
SweepsFirst moment (Some id) verdict result l = SweepsOut moment id verdict result l

pub record SweepsTold (moment silence : ℕ) (verdict : Verdict) (result : Result (Option (List ℕ)) LaneFault) (l : List Step) : Type 0 where
  pub legal : IsLegal (ledger l)
  pub first : SweepsFirst moment (first_silent_in moment silence (ledger l)) verdict result l

-- the first client in byte order of ids that was last heard of more than so long before the moment is answered, and none
-- exactly where there is no such client. Over any keeper a leave that is entered is sequenced, and a fault is one that fails any
-- call, or worn where the list is as long as may be
pub record Sweeps (t : Terms) (moment silence : ℕ) (verdict : Verdict) (result : Result (Option (List ℕ)) LaneFault) (l : List Step) : Type 0 where
  pub worn : IfErr result (λ fault. IsWorn fault → is_worn_behind l ≡ true)
  pub named : is_worn_behind l ≡ false → IfErr result IsFailure
  pub sequenced : IfOk result (λ given. IfSome given (λ _. is_sequenced verdict ≡ true))
  pub told : t.told ≡ true → SweepsTold moment silence verdict result l

-- the id of a leave
abbrev pub left_id : Raw → List ℕ
left_id (Leave id moment) = id
left_id other = []

-- the same answer with the raw entry, as a lane gives it
abbrev pub with_left : Result (Option (Raw × Message)) LaneFault → Result (Option (List ℕ)) LaneFault
with_left (Ok None) = Ok None
with_left (Ok (Some (raw, message))) = Ok (Some (left_id raw))
with_left (Err fault) = Err fault

-- the verdict in it; without one it says nothing
abbrev pub verdict_left : Result (Option (Raw × Message)) LaneFault → Verdict
verdict_left (Ok None) = Dropped
verdict_left (Ok (Some (raw, message))) = Sequenced message
verdict_left (Err fault) = Dropped

-- its raw entry is a leave at this moment
abbrev pub IsLeaveAt : ℕ → Option (Raw × Message) → Type 0
IsLeaveAt moment None = ⊤
IsLeaveAt moment (Some (raw, message)) = raw ≡ Leave (left_id raw) moment
