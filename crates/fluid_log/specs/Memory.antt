-- The keeper in memory: what it keeps, and which of its calls fail.
use Rattle.std.specs.Prelude.{◌≡◌, ℕ, ◌==◌, Bool, true, false, List, length, Some, Result, Ok, Err, if◌then◌else◌}
use Rattle.std.specs.List.{list_any}
use Rattle.fluid_io.specs.Causes.{one_more}
use Rattle.fluid_io.specs.Plan.{Planned, next_fails, called_by_plan}
use Rattle.fluid_log.specs.declared.fault.KeeperFault.{KeeperFault}
use Rattle.fluid_log.specs.declared.fault.KeeperFault.TheVariants.{Failed, NoMemory}
use Rattle.fluid_log.specs.Keeping.{Content, Keeping, nothing_kept}
use Rattle.fluid_log.specs.Calls.{add_record}

pub record MemoryKeeping : Type 0 where
  pub content : Content
  -- how many records of the log were read
  pub reads : ℕ
  -- the calls that are to fail
  pub plan : Planned
  -- the appends among them that add their record all the same
  pub adding : List ℕ

-- it tells its content
abbrev pub memory_seen : MemoryKeeping → Keeping
memory_seen m = record {
  content = Some m.content;
  records = length m.content.log;
  deltas = length m.content.deltas;
  checkpoints = length m.content.checkpoints;
  faults = m.plan.faults;
  reads = m.reads;
}

-- a keeper that keeps nothing yet, by the numbers of its failing calls
abbrev pub fresh_memory : (failing adding : List ℕ) → MemoryKeeping
fresh_memory failing adding = record {
  content = nothing_kept;
  reads = 0;
  plan = record { failing = failing; calls = 0; faults = 0 };
  adding = adding;
}

-- whether the next call, where it is an append that fails, adds its record all the same
abbrev pub next_adds : MemoryKeeping → Bool
next_adds m = list_any (λ number. number == one_more m.plan.calls) m.adding

-- the content that a failed append leaves
abbrev pub torn : List ℕ → MemoryKeeping → Content
torn bytes m = if next_adds m then add_record bytes m.content else m.content

-- a call is counted by the plan, which stays
pub record IsPlanned (old new : MemoryKeeping) : Type 0 where
  pub plan : new.plan ≡ called_by_plan old.plan
  pub adding : new.adding ≡ old.adding

-- a call fails exactly where the plan says so; one that is to fail doesn't come to want memory
abbrev pub FollowsPlan : {A : Type 0} → Planned → Result A KeeperFault → Type 0
FollowsPlan plan (Ok answer) = next_fails plan ≡ false
FollowsPlan plan (Err Failed) = next_fails plan ≡ true
FollowsPlan plan (Err NoMemory) = next_fails plan ≡ false

-- an append likewise, but that one which is to fail and to add its record all the same may find no memory for it
abbrev pub AppendsByPlan : {A : Type 0} → MemoryKeeping → Result A KeeperFault → Type 0
AppendsByPlan m (Ok answer) = next_fails m.plan ≡ false
AppendsByPlan m (Err Failed) = next_fails m.plan ≡ true
AppendsByPlan m (Err NoMemory) = next_fails m.plan ≡ true → next_adds m ≡ true

-- what an append that failed leaves
abbrev pub LeavesTorn : List ℕ → MemoryKeeping → MemoryKeeping → KeeperFault → Type 0
LeavesTorn bytes old new Failed = new.content ≡ torn bytes old
LeavesTorn bytes old new NoMemory = new.content ≡ old.content
