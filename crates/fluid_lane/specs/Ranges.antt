-- What a range of messages is, by the answer.
use Rattle.std.specs.Prelude.{◌≡◌, ℕ, ◌-◌, List, Result}
use Rattle.fluid_io.specs.Causes.{Tells}
use Rattle.fluid_types.specs.declared.messages.Message.{Message}
use Rattle.fluid_deltas.specs.declared.fault.DeltaFault.{DeltaFault}
use Rattle.fluid_deltas.specs.Ranges.{IsAnswer, IsHeldAnswer, AreHeld, Reads, held_between, range_of}
use Rattle.fluid_lane.specs.Standing.{Standing}

-- a call that only reads messages
pub record Ranges {V : Type 0} (messages : V → List Message) (from to : ℕ) (old new : Standing) (result : Result V DeltaFault) : Type 0 where
  pub same : (new.entries ≡ old.entries) × ((new.messages ≡ old.messages) × (new.owed ≡ old.owed))
  pub reads : Reads messages from to old.messages.before old.keeping new.keeping result
  pub answer : Tells old.keeping.content (λ content. IsAnswer messages result (range_of old.messages content from to))
  -- the keeper isn't asked where all of them are in memory
  pub memory : AreHeld old.messages from to → IsHeldAnswer messages (held_between old.messages (from - 1) (to - 1)) result × (new ≡ old)
