-- The parts of doing an act: what is asked of a lane alone, and of a store alone.
use Rattle.std.specs.Prelude.{◌≡◌, ℕ, ⊤, true, List, Some, IsSome, IfOk, IfErr, Result}
use Rattle.fluid_types.specs.declared.entries.Raw.{Raw}
use Rattle.fluid_types.specs.declared.entries.Raw.TheVariants.{Join}
use Rattle.fluid_types.specs.declared.messages.Message.{Message}
use Rattle.fluid_types.specs.Ledger.{Ledger}
use Rattle.fluid_rules.specs.declared.limits.Limits.{Limits}
use Rattle.fluid_store.specs.Held.{Held}
use Rattle.fluid_store.specs.Storing.{Storing}
use Rattle.fluid_lane.specs.declared.steps.Step.{Step}
use Rattle.fluid_lane.specs.Steps.{ledger}
use Rattle.fluid_lane.specs.Standing.{Standing, LaneStands}
use Rattle.fluid_voice.specs.declared.actions.Act.{Act}
use Rattle.fluid_voice.specs.declared.ends.ActEnd.{ActEnd}
use Rattle.fluid_voice.specs.declared.ends.ActEnd.TheVariants.{Joined}
use Rattle.fluid_voice.specs.Ends.{outcome}
use Rattle.fluid_voice.specs.Suits.{Suits}
use Rattle.fluid_ends.specs.declared.fault.TalkFault.{TalkFault}
use Rattle.fluid_ends.specs.declared.fault.TalkFault.TheVariants.{Lane, Delta, Store, NoMemory}
use Rattle.fluid_acts.specs.AtLane.{OnLane, is_entering, IsLaneCause, IsDeltaCause}
use Rattle.fluid_acts.specs.AtStore.{OnStore, is_asked_of_store, IsStoreCause}
use Rattle.fluid_acts.specs.Doing.{IsEndOf, found_in, is_range}

-- ---- a lane

abbrev pub IsLaneFault : Act → Standing → Standing → TalkFault → Type 0
IsLaneFault a old new (Lane fault) = (is_entering a ≡ true) × IsLaneCause old new fault
IsLaneFault a old new (Delta fault) = (is_range a ≡ true) × IsDeltaCause a old new fault
IsLaneFault a old new NoMemory = ⊤
IsLaneFault a old new fault = ⊥

-- the lane stands for the list, over a keeper that tells its content
abbrev pub FindsLane : Standing → List Step → Type 0
FindsLane s l = LaneStands s l × IsSome s.keeping.content

-- an act that isn't asked of a store
pub record DoesOnLane (a : Act) (old new : Standing) (result : Result ActEnd TalkFault) : Type 0 where
  pub lane : OnLane a old new result
  pub end : (l : List Step) (held : Held) → FindsLane old l → IsEndOf (outcome (found_in old.limits (ledger l) held) a) result
  pub suits : IfOk result (Suits a)
  pub cause : IfErr result (IsLaneFault a old new)

abbrev pub IsJoined : Raw → Type 0
IsJoined (Join id scopes detail moment) = ⊤
IsJoined raw = ⊥

-- the end of a connect whose join got this message
abbrev pub JoinedEnd : Raw → Message → ActEnd → Type 0
JoinedEnd (Join id scopes detail moment) message end = end ≡ Joined id message.number
JoinedEnd raw message end = ⊥

-- ---- a store

abbrev pub IsStoreFault : Act → Storing → Storing → TalkFault → Type 0
IsStoreFault a old new (Store fault) = (is_asked_of_store a ≡ true) × IsStoreCause a old new fault
IsStoreFault a old new NoMemory = ⊤
IsStoreFault a old new fault = ⊥

-- an act that is asked of a store
pub record DoesOnStore (a : Act) (old new : Storing) (result : Result ActEnd TalkFault) : Type 0 where
  pub store : OnStore a old new result
  pub end : (limits : Limits) (l : Ledger) (held : Held) → old.content ≡ Some held → IsEndOf (outcome (found_in limits l held) a) result
  pub suits : IfOk result (Suits a)
  pub cause : IfErr result (IsStoreFault a old new)
