-- What a lane says of the ledger for which it stands, in the words of the rules, and what an opening adds.
use Rattle.std.specs.Prelude.{◌≡◌, ◌⊎◌, ℕ, ◌+◌, nat_lt, Bool, true, false, List, [], ◌∷◌, length, map, Option, Some}
use Rattle.std.specs.FinMap.{keys, len}
use Rattle.fluid_io.specs.Causes.{Tells}
use Rattle.fluid_types.specs.Ledger.{Ledger, order, seq}
use Rattle.fluid_types.specs.declared.entries.Raw.{Raw}
use Rattle.fluid_types.specs.declared.entries.Raw.TheVariants.{Join, Leave}
use Rattle.fluid_types.specs.declared.entries.Scopes.{Scopes}
use Rattle.fluid_types.specs.Names.{entry_name}
use Rattle.fluid_json.specs.Tree.{Tree}
use Rattle.fluid_types.specs.declared.verdicts.Verdict.{Verdict}
use Rattle.fluid_rules.specs.Rules as rules
use Rattle.fluid_rules.specs.Rules.{IsLegal, joined, heard}
use Rattle.fluid_rules.specs.Scribe.{acks}
use Rattle.fluid_rules.specs.Counted as counting
use Rattle.fluid_rules.specs.Counted.{counted, has_too_many_clients}
use Rattle.fluid_scribe.specs.Jobs.{job}
use Rattle.fluid_ticket.specs.State as ticket
use Rattle.fluid_core.specs.Entering.{verdict_in, job_of, state_of}
use Rattle.fluid_lane.specs.declared.fault.LaneFault.{LaneFault}
use Rattle.fluid_lane.specs.declared.fault.LaneFault.TheVariants.{Full, TooManyClients}
use Rattle.fluid_lane.specs.declared.steps.Step.{Step}
use Rattle.fluid_lane.specs.Steps.{ledger, steps}
use Rattle.fluid_lane.specs.Standing.{Standing, AreNamed, LaneStands}
use Rattle.fluid_lane.specs.Starting.{run, leaves}
use Rattle.fluid_lane.specs.Refusals.{first_refusal, is_full, is_full_for, has_too_many}
use Rattle.fluid_lane.specs.Sweeps.{first_by, first_silent}

-- ---- the ledger

-- the first joined client, in byte order of ids, that was last heard of more than so long before the moment
abbrev pub first_silent_in : (moment silence : ℕ) → Ledger → Option (List ℕ)
first_silent_in moment silence l = first_by (λ id. nat_lt (heard l id + silence) moment) (joined l)

pub record SaysOf (s : Standing) (l : Ledger) : Type 0 where
  pub legal : IsLegal l
  pub entered : s.entries.entered ≡ length l
  pub counted : s.entries.counted ≡ counted l
  pub seq : s.entries.state.sequencer.sequence ≡ seq l
  pub min : ticket.minimum s.entries.state.sequencer ≡ rules.minimum l
  -- the joined clients, in byte order of ids, and as many
  pub clients : keys s.entries.state.sequencer.rows ≡ joined l
  pub count : len s.entries.state.sequencer.rows ≡ length (joined l)
  pub silent : (moment silence : ℕ) → first_silent moment silence s.entries.state.sequencer.rows ≡ first_silent_in moment silence l
  pub acks : s.entries.state.scribe.acks ≡ acks (order l)
  pub job : job_of s.entries.state ≡ job (order l)
  pub verdict : (raw : Raw) → verdict_in s.entries.state raw ≡ rules.verdict l raw
  -- the rules that refuse an entry, and a join under the id of its own number
  pub full : (raw : Raw) → is_full_for s raw ≡ (counting.is_full s.limits.entries l raw, Full s.limits.entries)
  pub full_join : (id : List ℕ) (scopes : Scopes) (detail : Tree) (moment : ℕ) → is_full s ≡ (counting.is_full s.limits.entries l (Join id scopes detail moment), Full s.limits.entries)
  pub too_many : AreNamed s.entries.entered s.entries.state.sequencer.rows → (scopes : Scopes) (detail : Tree) (moment : ℕ)
      → has_too_many s ≡ (has_too_many_clients s.limits.clients l (Join (entry_name (length l)) scopes detail moment), TooManyClients)

-- over a keeper that tells its content
abbrev pub LaneSays : Type 0
LaneSays = (s : Standing) (l : List Step) → LaneStands s l → Tells s.keeping.content (λ _. SaysOf s (ledger l))

-- a list without side steps has the ledger it is of
abbrev pub LedgerOfSteps : Type 0
LedgerOfSteps = (l : Ledger) → ledger (steps l) ≡ l

-- an opening enters a leave of each joined client, in byte order of ids
abbrev pub OpeningLeaves : Type 0
OpeningLeaves = (moment : ℕ) (l : Ledger) → IsLegal l → map (λ (entry : Raw × Verdict). entry.0) (run (state_of l) (leaves moment (state_of l))) ≡ map (λ id. Leave id moment) (joined l)

-- ---- rules that refuse

-- this rule refuses, with this fault, and none before it does
abbrev pub Fires : List (Bool × LaneFault) → LaneFault → Type 0
Fires [] fault = ⊥
Fires ((refuses, own) ∷ rules) fault = ((refuses ≡ true) × (fault ≡ own)) ⊎ ((refuses ≡ false) × Fires rules fault)

-- the first refusal is that of a rule that refuses
abbrev pub RefusalsFire : Type 0
RefusalsFire = (rules : List (Bool × LaneFault)) (fault : LaneFault) → first_refusal rules ≡ Some fault → Fires rules fault
