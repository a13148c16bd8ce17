-- A lane, and the list of steps for which it stands.
use Rattle.std.specs.Prelude.{◌≡◌, ◌⊎◌, ℕ, ◌+◌, ◌<◌, ◌≤◌, nat_le, Bool, true, false, ⊤, List, [], ◌∷◌, ◌++◌, length, Option, is_some, IsSome}
use Rattle.std.specs.Option.{option_or}
use Rattle.std.specs.FinMap.{get}
use Rattle.fluid_io.specs.Causes.{Tells}
use Rattle.fluid_types.specs.Names.{entry_name}
use Rattle.fluid_types.specs.Ledger.{Ledger, order}
use Rattle.fluid_types.specs.declared.entries.Raw.{Raw}
use Rattle.fluid_types.specs.declared.entries.Raw.TheVariants.{Join, Leave, Submit}
use Rattle.fluid_rules.specs.Rules.{verdict}
use Rattle.fluid_clients.specs.Table.{Rows}
use Rattle.fluid_log.specs.Keeping.{Content, Keeping}
use Rattle.fluid_log.specs.declared.keeper.TheConstants.{LONGEST_KEPT}
use Rattle.fluid_deltas.specs.Pushed.{Pushed, StandFor}
use Rattle.fluid_types.specs.Forms.{largest}
use Rattle.fluid_document.specs.Entries.{Entries, entries_of}
use Rattle.fluid_document.specs.Kept.{IsKept}
use Rattle.fluid_rules.specs.declared.limits.Limits.{Limits}
use Rattle.fluid_lane.specs.declared.steps.Side.{Side}
use Rattle.fluid_lane.specs.declared.steps.Step.{Step}
use Rattle.fluid_lane.specs.Steps.{ledger, last_side, stored, asides, AreNoted}

pub record Standing : Type 0 where
  pub keeping : Keeping
  -- what the entries made, and the messages of the order as far as they are in memory
  pub entries : Entries
  pub messages : Pushed
  pub limits : Limits
  -- the checkpoints that were found when the lane was started
  pub opened : ℕ
  -- the side steps, and the last of them
  pub sides : ℕ
  pub last : Option Side
  -- whether the log is to be cut down to the entered entries first
  pub owed : Bool

-- each joined id is `c` and the number of an entry before this one
abbrev pub AreNamed : ℕ → Rows → Type 0
AreNamed entered rows = (id : List ℕ) → IsSome (get rows id) → (n : ℕ) × ((n < entered) × (id ≡ entry_name n))

-- a join is one under the id of its own number
abbrev pub IsOwn : ℕ → Raw → Type 0
IsOwn entered (Join id scopes detail moment) = id ≡ entry_name entered
IsOwn entered other = ⊤

-- what may be submitted
abbrev pub IsLeaveOrSubmission : Raw → Type 0
IsLeaveOrSubmission (Leave id moment) = ⊤
IsLeaveOrSubmission (Submit id submission moment) = ⊤
IsLeaveOrSubmission other = ⊥

-- what holds of every lane, whether its keeper tells its content or not
pub record IsSafe (s : Standing) : Type 0 where
  pub few : s.entries.entered + s.sides ≤ largest
  pub logged : s.entries.entered ≤ s.keeping.records
  pub level : s.owed ≡ false → s.keeping.records ≡ s.entries.entered
  pub reached : s.messages.before ≤ s.keeping.deltas
  pub small : s.limits.bytes ≤ LONGEST_KEPT
  pub named : AreNamed s.entries.entered s.entries.state.sequencer.rows

-- what is in memory is that of the ledger, for which the keeper is kept
pub record IsFor (owed : Bool) (e : Entries) (d : Pushed) (l : Ledger) (content : Content) : Type 0 where
  pub kept : IsKept owed l content
  pub entries : e ≡ entries_of l
  pub messages : StandFor d (order l) content

pub record IsTold (s : Standing) (l : List Step) (content : Content) : Type 0 where
  pub stands : IsFor s.owed s.entries s.messages (ledger l) content
  pub checkpoints : s.keeping.checkpoints ≡ s.opened + stored l

-- the lane stands for the list of steps. Where its keeper tells its content, for the ledger of the entered ones
pub record LaneStands (s : Standing) (l : List Step) : Type 0 where
  pub number : s.entries.entered + s.sides ≡ length l
  pub last : s.last ≡ last_side l
  pub noted : AreNoted s.keeping.faults l
  -- who owes a cut has the step of the append that failed
  pub owes : s.owed ≡ true → 0 < s.sides
  pub told : Tells s.keeping.content (IsTold s l)

-- what a keeper is left as: kept for the ledger. Where a cut is owed perhaps for it with the entry whose record stands behind it
abbrev pub IsLeftFor : Bool → Ledger → Content → Type 0
IsLeftFor false l content = IsKept false l content
IsLeftFor true l content = IsKept false l content ⊎ ((raw : Raw) × IsKept false (l ++ (raw, verdict l raw) ∷ []) content)

-- as many entries and side steps as there can be
abbrev pub is_worn : Standing → Bool
is_worn s = nat_le largest (s.entries.entered + s.sides)

-- ---- what every call leaves

-- the lane goes on with these steps: what never changes stays, counts of faults never fall, entries and side steps are counted
-- and the last side step is kept, and whatever list it stood for, it stands for that list with these steps
pub record Goes (old new : Standing) (added : List Step) : Type 0 where
  pub limits : new.limits ≡ old.limits
  pub opened : new.opened ≡ old.opened
  pub told : is_some new.keeping.content ≡ is_some old.keeping.content
  pub later : old.keeping.faults ≤ new.keeping.faults
  pub entered : new.entries.entered ≡ old.entries.entered + length (ledger added)
  pub sides : new.sides ≡ old.sides + asides added
  pub last : new.last ≡ option_or (last_side added) old.last
  pub list : (l : List Step) → LaneStands old l → LaneStands new (l ++ added)
