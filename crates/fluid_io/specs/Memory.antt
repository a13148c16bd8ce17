-- The source and the sink in memory: what they hold, and what each call of theirs answers.
use Rattle.std.specs.Prelude.{◌≡◌, ℕ, List, length, min, Result, IfOk, is_err, true, if◌then◌else◌}
use Rattle.fluid_io.specs.Causes.{one_more}
use Rattle.fluid_io.specs.declared.faults.Failed.{Failed}
use Rattle.fluid_io.specs.Plan.{Planned, next_fails, called_by_plan}

-- a source in memory: its bytes that are left, the most that one read gives, and its plan
pub record MemoryReading : Type 0 where
  pub left : List ℕ
  pub most : ℕ
  pub plan : Planned

-- a read of the source in memory: it fails exactly where its plan says so, and else gives as many bytes as the
-- buffer has room for, one piece may have and are left
pub record MemoryReads (old new : MemoryReading) (room : ℕ) (result : Result ℕ Failed) : Type 0 where
  pub plan : new.plan ≡ called_by_plan old.plan
  pub most : new.most ≡ old.most
  pub fails : next_fails old.plan ≡ is_err result
  pub count : IfOk result (λ count. count ≡ min (min room old.most) (length old.left))

-- a sink in memory: its bytes, the most that one write takes, and its plan
pub record MemoryWriting : Type 0 where
  pub written : List ℕ
  pub most : ℕ
  pub plan : Planned

-- a call of the sink in memory is counted. It fails where the plan says so, or for want of memory
pub record IsCounted {A : Type 0} (old new : MemoryWriting) (result : Result A Failed) : Type 0 where
  pub failing : new.plan.failing ≡ old.plan.failing
  pub calls : new.plan.calls ≡ one_more old.plan.calls
  pub most : new.most ≡ old.most
  pub fails : next_fails old.plan ≡ true → is_err result ≡ true
  pub faults : new.plan.faults ≡ (if is_err result then one_more old.plan.faults else old.plan.faults)

-- a write to the sink in memory: it takes as many bytes as there are and as one piece may have
pub record MemoryWrites (old new : MemoryWriting) (size : ℕ) (result : Result ℕ Failed) : Type 0 where
  pub counted : IsCounted old new result
  pub count : IfOk result (λ count. count ≡ min size old.most)

-- a flush of the sink in memory needs no memory: it fails exactly where the plan says so
pub record MemoryFlushes (old new : MemoryWriting) (result : Result (Unit {0}) Failed) : Type 0 where
  pub counted : IsCounted old new result
  pub fails : next_fails old.plan ≡ is_err result
