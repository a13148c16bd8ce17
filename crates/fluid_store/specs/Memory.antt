-- The store in memory: what it holds, and what each call of it answers.
use Rattle.std.specs.Prelude.{◌≡◌, ℕ, List, Option, Some, Result, Ok, Err, if◌then◌else◌, refl}
use Rattle.std.specs.Coded.{Coded, code_by, coded×, coded_ℕ, coded_list}
use Rattle.std.specs.FinMap.{code, get}
use Rattle.fluid_io.specs.Causes.{one_more}
use Rattle.fluid_io.specs.Plan.{Planned, plan_code, next_fails, called_by_plan}
use Rattle.fluid_json.specs.Unless.{IsUnless}
use Rattle.fluid_store.specs.Held.{Held}
use Rattle.fluid_store.specs.Storing.{Storing}
use Rattle.fluid_store.specs.declared.fault.ObjectFault.{ObjectFault}
use Rattle.fluid_store.specs.declared.fault.ObjectFault.TheVariants.{Failed, NoMemory}

-- what it holds, its count of gets, and its plan
pub record MemoryStoring : Type 0 where
  pub held : Held
  pub gets : ℕ
  pub plan : Planned

abbrev pub held_code : Coded Held
held_code = code (coded_list coded_ℕ) (coded_list coded_ℕ)

abbrev pub memory_code : Coded MemoryStoring
memory_code =
    code_by (Held × (ℕ × Planned)) (coded× held_code (coded× coded_ℕ plan_code)) (λ m. (m.held, (m.gets, m.plan)))
    (λ parts. record { held = parts.0; gets = parts.1.0; plan = parts.1.1 }) (λ _. refl)

-- it tells what it holds
abbrev pub memory_seen : MemoryStoring → Storing
memory_seen m = record { content = Some m.held; faults = m.plan.faults; gets = m.gets }

-- a get fails exactly where the plan says so
pub record MemoryGets (id : List ℕ) (old new : MemoryStoring) (result : Result (Option (List ℕ)) ObjectFault) : Type 0 where
  pub held : new.held ≡ old.held
  pub gets : new.gets ≡ one_more old.gets
  pub plan : new.plan ≡ called_by_plan old.plan
  pub answer : IsUnless NoMemory result (if next_fails old.plan then Err Failed else Ok (get old.held id))

-- a put fails exactly where the plan says so, and then puts nothing
pub record MemoryPuts (id bytes : List ℕ) (old new : MemoryStoring) (result : Result (Unit {0}) ObjectFault) : Type 0 where
  pub gets : new.gets ≡ old.gets
  pub plan : new.plan ≡ called_by_plan old.plan
  pub answer : IsUnless NoMemory result (if next_fails old.plan then Err Failed else Ok tt)
  pub held : result ≡ Err Failed → new.held ≡ old.held
