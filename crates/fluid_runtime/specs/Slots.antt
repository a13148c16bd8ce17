-- The channels as they are kept.
use Rattle.std.specs.Prelude.{◌≡◌, ℕ, ◌+◌, ◌*◌, ◌^◌, ◌≤◌, List, [], ◌∷◌, map, Bool, true, if◌then◌else◌, Option, Some, None, nat_lt, unsigned_abs}
use Rattle.std.specs.FinMap.{entries, from_sorted, get, insert}
use Rattle.fluid_table.specs.Table as table
use Rattle.fluid_types.specs.Names.{IsName}
use Rattle.fluid_edits.specs.Replay.{Channel, a_map, a_counter, Channels}
use Rattle.fluid_tree.specs.Summary.{Summary, handle}
use Rattle.fluid_runtime.specs.AppTree.{channel_node}
use Rattle.fluid_runtime.specs.declared.slots.Object.{Object}
use Rattle.fluid_runtime.specs.declared.slots.Object.TheVariants.{Map, Counter}
use Rattle.fluid_runtime.specs.declared.slots.Slot.{Slot}

abbrev pub Slots : Type 0
Slots = table.Values Slot

-- each key with what a function makes of its value
abbrev pub each : {X Y : Type 0} → (X → Y) → table.Values X → table.Values Y
each f m = from_sorted (map (λ e. (e.0, f e.1)) (entries m))

-- ---- one channel

abbrev pub channel_of_object : Object → Channel
channel_of_object (Map shared) = a_map shared.acknowledged
channel_of_object (Counter shared) = a_counter shared.acknowledged

abbrev pub channel_of : Slot → Channel
channel_of slot = channel_of_object slot.object

-- nothing is pending in it, and behind so many edits a counter has its room: each adds less than 2^53 to a total that began within 2^120
abbrev pub IsQuiet : ℕ → Object → Type 0
IsQuiet taken (Map shared) = shared.pending ≡ []
IsQuiet taken (Counter shared) = (shared.pending ≡ []) × (unsigned_abs shared.acknowledged ≤ 2 ^ 120 + taken * 2 ^ 53)

abbrev pub settled_object : Object → Object
settled_object (Map shared) = Map (record shared { pending = [] })
settled_object (Counter shared) = Counter (record shared { pending = [] })

-- the same without anything pending, which nothing is
abbrev pub settled_slot : Slot → Slot
settled_slot slot = record slot { object = settled_object slot.object }

pub record IsSoundSlot (taken : ℕ) (slot : Slot) : Type 0 where
  pub quiet : IsQuiet taken slot.object
  pub known : slot.last ≤ taken

-- ---- all channels

abbrev pub IsSound : ℕ → Slots → Type 0
IsSound taken slots = (at : List ℕ) (slot : Slot) → get slots at ≡ Some slot → IsSoundSlot taken slot

-- each stands under a name
abbrev pub AreNamed : Slots → Type 0
AreNamed slots = (at : List ℕ) (slot : Slot) → get slots at ≡ Some slot → IsName at

abbrev pub channels_of : Slots → Channels
channels_of slots = each channel_of slots

-- a channel has changed since the mark where an edit behind it has counted for it, and without a mark
abbrev pub is_changed : Option ℕ → Slot → Bool
is_changed None slot = true
is_changed (Some mark) slot = nat_lt mark slot.last

abbrev pub changed_of : Option ℕ → Slots → table.Values Bool
changed_of mark slots = each (is_changed mark) slots

-- ---- one edit

-- a slot behind the edit of this number, which makes this of its channel, if anything
abbrev pub IsToldSlot : ℕ → Option Channel → Slot → Slot → Type 0
IsToldSlot number None before behind = behind ≡ before
IsToldSlot number (Some channel) before behind = (channel_of behind ≡ channel) × (behind.last ≡ number)

-- the channel stands now under the address, which is a name
pub record IsPut (number : ℕ) (at : List ℕ) (before behind : Slots) (channel : Channel) : Type 0 where
  pub slot : Slot
  pub named : IsName at
  pub put : behind ≡ insert before at slot
  pub holds : channel_of slot ≡ channel
  pub counted : slot.last ≡ number
  pub quiet : IsQuiet number slot.object

-- the channels behind the edit of this number, which makes this of the one at the address, if anything
abbrev pub IsTold : ℕ → List ℕ → Slots → Slots → Option Channel → Type 0
IsTold number at before behind None = behind ≡ before
IsTold number at before behind (Some channel) = IsPut number at before behind channel

-- the mark is one of before
abbrev pub IsKnown : ℕ → Option ℕ → Type 0
IsKnown taken None = Unit {0}
IsKnown taken (Some mark) = mark ≤ taken

-- the node of a channel in a tree that tells what has changed since the mark: a handle of its address where nothing has
abbrev pub node_at : Option ℕ → List ℕ → Slot → Summary
node_at mark at slot = if is_changed mark slot then channel_node (channel_of slot) else handle (at ∷ [])
