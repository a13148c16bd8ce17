-- What has changed, at the beginning and at a mark.
use Rattle.std.proofs.Common.{◌≡◌, ℕ, true, false, List, [], Some, None, sym, ap, ◌∙◌}
use Rattle.std.proofs.lemmas.Bool.{le-ltb}
use Rattle.std.specs.FinMap.{empty}
use Rattle.fluid_edits.specs.declared.edit.Edit.{Edit}
use Rattle.fluid_edits.specs.Replay.{no_channels}
use Rattle.fluid_runtime.specs.App.{AnApp, all_are, loaded, most_taken}
use Rattle.fluid_runtime.specs.Slots.{Slots, channel_of, channels_of, changed_of, is_changed, IsSound}
use Rattle.fluid_runtime.proofs.Each.{each_alike, each_each, each_empty}

-- nothing has changed since a mark that is made now
pub none_changed : (taken : ℕ) (slots : Slots) → IsSound taken slots → changed_of (Some taken) slots ≡ all_are false (channels_of slots)
none_changed taken slots sound =
    each_alike (is_changed (Some taken)) (λ slot. false) slots (λ at slot found. le-ltb taken slot.last (sound at slot found).known)
    ∙ sym (each_each (λ channel. false) channel_of slots)

-- without a mark all has
pub all_changed : (slots : Slots) → changed_of None slots ≡ all_are true (channels_of slots)
all_changed slots = sym (each_each (λ channel. true) channel_of slots)

pub loaded_app : (slots : Slots) (pending : List Edit) → pending ≡ []
    → ◌≡◌ {A = AnApp} (record { channels = channels_of slots; changed = changed_of None slots; pending = pending; room = most_taken }) (loaded (channels_of slots))
loaded_app slots pending none = λ i. record { channels = channels_of slots; changed = all_changed slots i; pending = none i; room = most_taken }

pub fresh_app : (slots : Slots) (pending : List Edit) → slots ≡ empty → pending ≡ []
    → ◌≡◌ {A = AnApp} (record { channels = channels_of slots; changed = changed_of None slots; pending = pending; room = most_taken }) (loaded no_channels)
fresh_app slots pending no_slots none = loaded_app slots pending none ∙ ap loaded (ap channels_of no_slots ∙ each_empty channel_of)
