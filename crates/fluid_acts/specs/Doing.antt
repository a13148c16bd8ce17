-- How an act ends: as the document and the store answer it, or why it fails.
use Rattle.std.specs.Prelude.{◌≡◌, ⊤, true, List, Some, IsSome, Result, Ok, Err}
use Rattle.fluid_store.specs.Held.{Held}
use Rattle.fluid_store.specs.Storing.{Storing}
use Rattle.fluid_store.specs.declared.fault.StoreFault.TheVariants as store
use Rattle.fluid_lane.specs.declared.steps.Step.{Step}
use Rattle.fluid_lane.specs.Standing.{Standing, LaneStands}
use Rattle.fluid_voice.specs.declared.actions.Act.{Act}
use Rattle.fluid_voice.specs.declared.actions.Act.TheVariants as act
use Rattle.fluid_voice.specs.declared.ends.ActEnd.{ActEnd}
use Rattle.fluid_voice.specs.Ends.{Outcome}
use Rattle.fluid_voice.specs.Ends.Outcome.{ends, clashes}
use Rattle.fluid_ends.specs.declared.fault.TalkFault.{TalkFault}
use Rattle.fluid_ends.specs.declared.fault.TalkFault.TheVariants.{Door, Lane, Delta, Store, NoMemory}
pub use Rattle.fluid_ends.specs.Asking.{found_in, is_range}
use Rattle.fluid_acts.specs.AtLane.{is_entering, IsLaneCause, IsDeltaCause}
use Rattle.fluid_acts.specs.AtStore.{is_asked_of_store, IsStoreCause}

-- an act is asked of a lane that stands for a list, over a keeper that tells its content, or of a store that tells what it holds
abbrev pub FindsTold : Act → Standing → List Step → Storing → Held → Type 0
FindsTold (act.GetObject id) s l storing held = storing.content ≡ Some held
FindsTold (act.PutObject bytes) s l storing held = storing.content ≡ Some held
FindsTold a s l storing held = LaneStands s l × IsSome s.keeping.content

-- the end is the one that the definition names, and so is a clash
abbrev pub IsEndOf : Outcome → Result ActEnd TalkFault → Type 0
IsEndOf named (Ok end) = named ≡ ends end
IsEndOf named (Err (Store (store.Clash id kept new))) = named ≡ clashes id kept new
IsEndOf named (Err fault) = ⊤

-- ---- why it fails

-- each act has the faults of its own call; want of memory alone is free
abbrev pub IsTalkCause : Act → (old new : Standing) → (before now : Storing) → TalkFault → Type 0
IsTalkCause a old new before now (Lane fault) = (is_entering a ≡ true) × IsLaneCause old new fault
IsTalkCause a old new before now (Delta fault) = (is_range a ≡ true) × IsDeltaCause a old new fault
IsTalkCause a old new before now (Store fault) = (is_asked_of_store a ≡ true) × IsStoreCause a before now fault
IsTalkCause a old new before now (Door fault) = ⊥
IsTalkCause a old new before now NoMemory = ⊤
