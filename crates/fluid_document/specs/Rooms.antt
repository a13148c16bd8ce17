-- What is put into a keeper where room is made for one more message.
use Rattle.std.specs.Prelude.{ℕ, ◌+◌, nat_le, List, [], length, if◌then◌else◌}
use Rattle.fluid_types.specs.declared.messages.Message.{Message}
use Rattle.fluid_log.specs.Keeping.{Keeping}
use Rattle.fluid_deltas.specs.Pushed.{Pushed}
use Rattle.fluid_deltas.specs.Flushes.{lacking_up_to, with_deltas}
use Rattle.fluid_deltas.specs.declared.pages.TheConstants.{PAGE, RESIDENT}

-- where the most messages are in memory, those of the oldest page that a keeper of so many deltas lacks
abbrev pub for_room : Pushed → (deltas : ℕ) → List Message
for_room d deltas = if nat_le RESIDENT (length d.held) then lacking_up_to d deltas (d.before + PAGE) else []

-- the keeper behind it
abbrev pub roomed : Pushed → Keeping → Keeping
roomed d k = with_deltas (for_room d k.deltas) k
