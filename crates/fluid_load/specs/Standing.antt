-- When a workload stands for what the definition says, and what an act of it owes.
use Rattle.std.specs.Prelude.{if◌then◌else◌, ◌≡◌, ◌⊎◌, ◌≤◌, ◌+◌, ◌-◌, ◌*◌, ◌^◌, ℕ, ⊤, min, length, Bool, true, false, List, [], None, Result, Ok, Err, OnOk, refl}
use Rattle.std.specs.Coded.{Coded, code_by, coded×, coded_ℕ, coded_bool}
use Rattle.std.specs.FinMap.{get, insert}
use Rattle.fluid_table.specs.Table.{Values, values_code}
use Rattle.fluid_types.specs.declared.entries.Submission.{Submission}
use Rattle.fluid_types.specs.contracts.entries.Submission as submissions
use Rattle.fluid_types.specs.declared.verdicts.Verdict.{Verdict}
use Rattle.fluid_types.specs.Forms.{largest}
use Rattle.fluid_store.specs.Storing.{Storing}
use Rattle.fluid_lanes.specs.Opened.{Opened, opened_code}
use Rattle.fluid_door_link.specs.Codes.{storing_code}
use Rattle.fluid_holding.specs.Holding.{HoldsOwn}
use Rattle.fluid_voice.specs.Ends.{is_beyond}
use Rattle.fluid_transcript.specs.World.{World, document, is_open}
use Rattle.fluid_transcript.specs.Containers.{is_taken}
use Rattle.fluid_workload.specs.Working.{work, p, Workload, work_ledger}
use Rattle.fluid_desk.specs.declared.stop.Stop.{Stop}
use Rattle.fluid_desk.specs.Stopping.{IsHonest, MayStop, HasRun}
use Rattle.fluid_containers.specs.Ending.{RunsLinking}
use Rattle.fluid_world.specs.declared.named.Named.{Named}
use Rattle.fluid_world.specs.contracts.named.Named as named
use Rattle.fluid_world.specs.Naming.{AreBounded}
use Rattle.fluid_world.specs.Standing.{WorldStands}
use Rattle.fluid_rules.specs.declared.limits.Limits.{Limits}
use Rattle.fluid_turns.specs.declared.figures.Figures.{Figures}
use Rattle.fluid_turns.specs.declared.tally.Tally.{Tally}
use Rattle.fluid_turns.specs.Tallying.{IsTally, tally_with}

-- the open documents, the store, what names stand for, what each client submitted last, how often there was each verdict, and whether
-- all this is known to stand for a world
pub record AtWork : Type 0 where
  pub lanes : Opened
  pub store : Storing
  pub names : Values Named
  pub sent : Values Submission
  pub tally : Tally
  pub good : Bool

abbrev pub at_work_code : Coded AtWork
at_work_code =
    code_by (Opened × (Storing × (Values Named × (Values Submission × ((ℕ × ℕ) × Bool)))))
    (coded× opened_code (coded× storing_code (coded× (values_code Named named.the_row.coded) (coded× (values_code Submission submissions.the_row.coded) (coded× (coded× coded_ℕ coded_ℕ) coded_bool)))))
    (λ s. (s.lanes, (s.store, (s.names, (s.sent, ((s.tally.absorbed, s.tally.nacked), s.good))))))
    (λ p. record { lanes = p.0; store = p.1.0; names = p.1.1.0; sent = p.1.1.1.0; tally = record { absorbed = p.1.1.1.1.0.0; nacked = p.1.1.1.1.0.1 }; good = p.1.1.1.1.1 }) (λ _. refl)

-- ---- a world

-- it stands for a workload whose world is at the moment 0 and has each object under its own id
pub record WorkStands (s : AtWork) (w : Workload) : Type 0 where
  pub stands : WorldStands s.lanes s.store s.names w.world
  pub moment : w.world.moment ≡ 0
  pub owned : HoldsOwn w.world.store
  pub sent : s.sent ≡ w.sent
  pub tally : IsTally (work_ledger w) s.tally

-- where it is known to stand for one, it does
abbrev pub MayPass : AtWork → Type 0
MayPass s = s.good ≡ true → (w : Workload) × WorkStands s w

-- it stands for a workload whose document is open
pub record WorkGoes (s : AtWork) (w : Workload) : Type 0 where
  pub stands : WorkStands s w
  pub open_is : is_open w.world work ≡ true

abbrev pub MayGo : AtWork → Type 0
MayGo s = s.good ≡ true → (w : Workload) × WorkGoes s w

-- before the first step its document may not be open yet: then the first container has no name, the document may be opened, and it has
-- no entry
pub record IsNew (w : World) : Type 0 where
  pub name : get w.names p ≡ None
  pub within : is_beyond w.opened work ≡ false
  pub no_entry : (document w work).raws ≡ []

pub record WorkBegins (s : AtWork) (w : Workload) : Type 0 where
  pub stands : WorkStands s w
  pub opens : (is_open w.world work ≡ true) ⊎ IsNew w.world

abbrev pub MayBegin : AtWork → Type 0
MayBegin s = s.good ≡ true → (w : Workload) × WorkBegins s w

-- ---- a step that may be refused

-- names, desk and store stand for the world behind a step
abbrev pub PassTakes : World → Opened → Storing → Values Named → Result (Unit {0}) Stop → Type 0
PassTakes w lanes store names (Ok done) = WorldStands lanes store names w
PassTakes w lanes store names (Err stop) = MayStop w lanes stop

-- a step was done, or passed over; its entries aren't counted yet
pub record HasPassed (w : Workload) (old new : AtWork) : Type 0 where
  pub stands : WorldStands new.lanes new.store new.names w.world
  pub sent : new.sent ≡ old.sent
  pub tally : new.tally ≡ old.tally

abbrev pub Passes : Workload → AtWork → AtWork → Result (Unit {0}) Stop → Type 0
Passes w old new (Ok done) = HasPassed w old new
Passes w old new (Err stop) = MayStop w.world new.lanes stop

-- ---- how documents grow

-- no document has more than so many entries more
abbrev pub GrowsBy : (more : ℕ) → (old new : World) → Type 0
GrowsBy more old new = (name : List ℕ) → length (document new name).raws ≤ length (document old name).raws + more

-- nothing that is stored is refused, but that with so many entries and side steps more a document of this world comes to the end of all
-- numbers
abbrev pub IsFair : (more : ℕ) → World → Stop → Type 0
IsFair more w stop = (name : List ℕ) × IsHonest (length (document w name).raws + more) stop

-- in a part of at most so many steps, behind so many: each adds at most an entry, and at most a side step
abbrev pub WearsBy : (steps more : ℕ) → (old new : World) → Result (Unit {0}) Stop → Type 0
WearsBy steps more old new (Ok done) = GrowsBy more old new
WearsBy steps more old new (Err stop) = IsFair (steps + 2 * more) old stop

-- ---- on every desk

-- a part of a run of at most so many steps, in which no container submits more often
pub record ActsOn (more : ℕ) (a b : AtWork) (result : Result (Unit {0}) Stop) : Type 0 where
  pub limits : b.lanes.limits ≡ a.lanes.limits
  pub good : b.good ≡ a.good
  pub counts : a.store.faults ≤ b.store.faults
  pub runs : (first steps : ℕ) → HasRun first steps a.lanes → RunsLinking first (steps + more) a.store b.store b.lanes result
  pub numbers : OnOk result ((n : ℕ) → AreBounded n a.names → AreBounded (n + more) b.names)

-- so often may they submit still
abbrev pub HasNumbers : (more : ℕ) → AtWork → Type 0
HasNumbers more s = (n : ℕ) × (AreBounded n s.names × (n + more ≤ largest))

-- ---- a part of a workload

-- what a part of a workload makes of it, within these limits
abbrev pub Next : Type 0
Next = Limits → Workload → Workload

-- it stands for this workload, whose document is open
abbrev pub LeadsTo : Workload → AtWork → Result (Unit {0}) Stop → Type 0
LeadsTo w s (Ok done) = WorkGoes s w
LeadsTo w s (Err stop) = ⊤

-- what a part of so many steps owes, where the document is open: it leads to what is made of the workload, and wears no document more
pub record Works (more : ℕ) (next : Next) (a b : AtWork) (result : Result (Unit {0}) Stop) : Type 0 where
  pub on : ActsOn more a b result
  pub leads : (w : Workload) → a.good ≡ true → WorkGoes a w → LeadsTo (next a.lanes.limits w) b result
  pub wears : (w : Workload) (first steps : ℕ) → a.good ≡ true → WorkGoes a w → HasRun first steps a.lanes → WearsBy steps more w.world (next a.lanes.limits w).world result

-- and where it may not be open yet
pub record Opens (more : ℕ) (next : Next) (a b : AtWork) (result : Result (Unit {0}) Stop) : Type 0 where
  pub on : ActsOn more a b result
  pub leads : (w : Workload) → a.good ≡ true → WorkBegins a w → LeadsTo (next a.lanes.limits w) b result
  pub wears : (w : Workload) (first steps : ℕ) → a.good ≡ true → WorkBegins a w → HasRun first steps a.lanes → WearsBy steps more w.world (next a.lanes.limits w).world result

-- such a part may be done
pub record CanWork (more : ℕ) (s : AtWork) : Type 0 where
  pub may : MayGo s
  pub few : HasNumbers more s

pub record CanBegin (more : ℕ) (s : AtWork) : Type 0 where
  pub may : MayBegin s
  pub few : HasNumbers more s

pub record CanPass (s : AtWork) : Type 0 where
  pub may : MayPass s
  pub few : HasNumbers 1 s

-- ---- what is counted

-- so many entries have no message
abbrev pub unsequenced : Figures → ℕ
unsequenced f = f.entries - f.sequence

-- all that have no message now, and had none before, were nacked
abbrev pub with_nacked : (before after : Figures) → Tally → Tally
with_nacked before after t = record t { nacked = min (t.nacked + (unsequenced after - unsequenced before)) (2 ^ 64 - 1) }

-- behind this verdict on a submission of a client
abbrev pub noted : (name : List ℕ) → Submission → Verdict → AtWork → AtWork
noted name submission v s =
    record s { tally = tally_with v s.tally; sent = if is_taken v then insert s.sent name submission else s.sent }
