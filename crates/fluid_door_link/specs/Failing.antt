-- Why a call on a lane or on a store that are lent failed.
use Rattle.std.specs.Prelude.{◌≡◌, ℕ, ◌<◌, ◌≤◌, ⊤, Bool, true, false, List, Option, Some, None, Err}
use Rattle.std.specs.Option.{option_map_or}
use Rattle.fluid_io.specs.Causes.{Tells}
use Rattle.fluid_tree.specs.Summary.{Summary}
use Rattle.fluid_deltas.specs.Ranges as ranges
use Rattle.fluid_deltas.specs.Ranges.{range_of}
use Rattle.fluid_deltas.specs.declared.fault.DeltaFault.TheVariants as delta
use Rattle.fluid_deltas.specs.declared.fault.DeltaFault.{DeltaFault}
use Rattle.fluid_store.specs.Keeping as keeping
use Rattle.fluid_store.specs.Parts.{part_over}
use Rattle.fluid_store.specs.Storing.{Storing}
use Rattle.fluid_store.specs.declared.fault.StoreFault.{StoreFault}
use Rattle.fluid_store.specs.declared.fault.StoreFault.TheVariants as store
use Rattle.fluid_lane.specs.declared.fault.LaneFault.{LaneFault}
use Rattle.fluid_lane.specs.declared.fault.LaneFault.TheVariants as lane
use Rattle.fluid_lane.specs.declared.steps.Step.{Step}
use Rattle.fluid_lane.specs.Standing.{Standing, LaneStands, Goes, is_worn}
use Rattle.fluid_loader.specs.declared.link.LinkFault.{LinkFault}
use Rattle.fluid_loader.specs.declared.link.LinkFault.TheVariants as link
use Rattle.fluid_door_link.specs.declared.fault.LentFault.{LentFault}
use Rattle.fluid_door_link.specs.declared.fault.LentFault.TheVariants.{Lane, Deltas, Store}

-- ---- causes

-- the delta of this number doesn't decode: it is the first such of a range that was asked of the lane, which goes on from there, and
-- none is where the lane stands for a list
pub record RefusesDelta (now : Standing) (number : ℕ) : Type 0 where
  pub before : Standing
  pub added : List Step
  pub goes : Goes before now added
  pub first : ℕ
  pub end : ℕ
  pub within : (first ≤ number) × ((number < end) × (number ≤ before.messages.before))
  pub bad : Tells before.keeping.content (λ content. range_of before.messages content first end ≡ Err (delta.BadDelta number))
  pub never : (l : List Step) → LaneStands before l → Tells before.keeping.content (λ _. ⊥)

-- a summary tree is refused, over the tree of this id, by what the store holds
pub record RefusesTree (now : Storing) (fault : StoreFault) : Type 0 where
  pub node : Summary
  pub base : Option (List ℕ)
  pub is_fault : Tells now.content (λ held. Err fault ≡ part_over held base node)

-- the counts of the keeper tell of a fault, or the lane has come to the end of its numbers
abbrev pub LaneFails : (old new : Standing) → LaneFault → Type 0
LaneFails old new (lane.LogFailed note) = ranges.IsNoted old.keeping.faults new.keeping.faults note
LaneFails old new (lane.DeltaFailed note) = ranges.IsNoted old.keeping.faults new.keeping.faults note
LaneFails old new lane.Worn = is_worn new ≡ true
LaneFails old new other = ⊥

abbrev pub DeltasFail : (old new : Standing) → DeltaFault → Type 0
DeltasFail old new (delta.DeltaFailed note) = ranges.IsNoted old.keeping.faults new.keeping.faults note
DeltasFail old new (delta.BadDelta number) = RefusesDelta new number
DeltasFail old new delta.Worn = is_worn new ≡ true
DeltasFail old new delta.NoMemory = ⊥

abbrev pub StoreFails : (before now : Storing) → StoreFault → Type 0
StoreFails before now (store.StoreFailed note) = keeping.IsNoted before now note
StoreFails before now (store.Clash id kept bytes) = ⊥
StoreFails before now (store.Missing id) = RefusesTree now (store.Missing id)
StoreFails before now (store.BadObject id place) = RefusesTree now (store.BadObject id place)
StoreFails before now (store.Tree fault) = RefusesTree now (store.Tree fault)
StoreFails before now (store.NoPath path) = RefusesTree now (store.NoPath path)
StoreFails before now store.NoMemory = ⊥

-- a fault has its cause, between a lane and a store as they were and as they are
abbrev pub HasCause : (old new : Standing) → (before now : Storing) → LentFault → Type 0
HasCause old new before now (Lane fault) = LaneFails old new fault
HasCause old new before now (Deltas fault) = DeltasFail old new fault
HasCause old new before now (Store fault) = StoreFails before now fault

-- a lane that stands for a list has no bad delta
abbrev pub IsHonest : LentFault → Type 0
IsHonest (Deltas (delta.BadDelta number)) = ⊥
IsHonest other = ⊤

-- ---- what a link keeps of an answer, and what it answers

-- a full document and want of memory aren't kept
abbrev pub kept_of_lane : LaneFault → Option LentFault
kept_of_lane (lane.Full entries) = None
kept_of_lane lane.NoMemory = None
kept_of_lane other = Some (Lane other)

abbrev pub kept_of_deltas : DeltaFault → Option LentFault
kept_of_deltas delta.NoMemory = None
kept_of_deltas other = Some (Deltas other)

-- a clash and want of memory aren't
abbrev pub kept_of_store : StoreFault → Option LentFault
kept_of_store (store.Clash id kept bytes) = None
kept_of_store store.NoMemory = None
kept_of_store other = Some (Store other)

abbrev pub link_deltas : DeltaFault → LinkFault
link_deltas delta.NoMemory = link.NoMemory
link_deltas other = link.Failed

-- ---- a refused tree

-- whether a fault is that a tree was refused
abbrev pub is_refusal : LentFault → Bool
is_refusal (Lane fault) = false
is_refusal (Deltas fault) = false
is_refusal (Store (store.StoreFailed note)) = false
is_refusal (Store fault) = true

-- where that is what stopped it, such a tree was counted
abbrev pub IsTreeCounted : Option LentFault → (bad_trees : ℕ) → Type 0
IsTreeCounted stop bad_trees = option_map_or is_refusal stop false ≡ true → 1 ≤ bad_trees

-- a tree is counted by what the store says of it
abbrev pub CountsTree : StoreFault → (trees now : ℕ) → Type 0
CountsTree (store.StoreFailed note) trees now = now ≡ trees
CountsTree (store.Clash id kept bytes) trees now = now ≡ trees
CountsTree (store.Missing id) trees now = 1 ≤ now
CountsTree (store.BadObject id place) trees now = 1 ≤ now
CountsTree (store.Tree fault) trees now = 1 ≤ now
CountsTree (store.NoPath path) trees now = 1 ≤ now
CountsTree store.NoMemory trees now = now ≡ trees

-- it isn't that
abbrev pub IsNoRefusal : Option LentFault → Type 0
IsNoRefusal stop = option_map_or is_refusal stop false ≡ false
