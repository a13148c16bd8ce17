-- Objects behind a lock, as one of their users sees them.
use Rattle.std.specs.Prelude.{ℕ, None, Result, Ok, Err}
use Rattle.fluid_io.specs.Causes.{one_more}
use Rattle.fluid_store.specs.declared.fault.ObjectFault.{ObjectFault}
use Rattle.fluid_store.specs.declared.fault.ObjectFault.TheVariants.{Failed, NoMemory}
use Rattle.fluid_store.specs.Storing.{Storing}

-- nothing is told of what is held
abbrev pub locked : ℕ → ℕ → Storing
locked faults gets = record { content = None; faults = faults; gets = gets }

-- a fault of the store behind the lock is counted
abbrev pub faults_after : {A : Type 0} → ℕ → Result A ObjectFault → ℕ
faults_after faults (Ok a) = faults
faults_after faults (Err Failed) = one_more faults
faults_after faults (Err NoMemory) = faults
