-- Calls on objects of which nothing is told.
use Rattle.std.proofs.Common.{inl, ℕ, ◌≤◌, List, Option, Result, Ok, Err, refl, arith}
use Rattle.fluid_store.specs.declared.fault.ObjectFault.{ObjectFault}
use Rattle.fluid_store.specs.declared.fault.ObjectFault.TheVariants.{Failed, NoMemory}
use Rattle.fluid_store.specs.Storing.{IsCounted, GetSays, PutDoes, Gets, Puts}
use Rattle.fluid_locked.specs.Locked.{locked, faults_after}

module _ (id : List ℕ) (faults gets : ℕ) where
  says : (now : ℕ) (result : Result (Option (List ℕ)) ObjectFault) → GetSays id (locked faults gets) (locked (faults_after faults result) now) result
  says now (Ok found) = tt
  says now (Err Failed) = omega arith
  says now (Err NoMemory) = tt

  pub gets_locked : (now : ℕ) (result : Result (Option (List ℕ)) ObjectFault) → faults ≤ faults_after faults result → IsCounted gets now → Gets id (locked faults gets) (locked (faults_after faults result) now) result
  gets_locked now result later counted = record { content = refl; gets = counted; later = later; says = says now result }

  does : (bytes : List ℕ) (result : Result (Unit {0}) ObjectFault) → PutDoes id bytes (locked faults gets) (locked (faults_after faults result) gets) result
  does bytes (Ok done) = refl
  does bytes (Err Failed) = (omega arith, inl refl)
  does bytes (Err NoMemory) = refl

  pub puts_locked : (bytes : List ℕ) (result : Result (Unit {0}) ObjectFault) → faults ≤ faults_after faults result → Puts id bytes (locked faults gets) (locked (faults_after faults result) gets) result
  puts_locked bytes result later = record { gets = refl; later = later; does = does bytes result }
