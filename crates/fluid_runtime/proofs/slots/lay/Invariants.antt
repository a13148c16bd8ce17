use Rattle.std.proofs.Common.{◌≡◌, ◌+◌, take}
use Rattle.fluid_edits.specs.Replay.{replay_edits}
use Rattle.fluid_runtime.specs.Slots.{channels_of, IsSound}
use Rattle.fluid_runtime.proofs.slots.lay.Given as goal

-- the channels are those behind the edits so far, which are counted
abbrev pub invariant-loop-edit : goal.invariant-loop-edit
invariant-loop-edit l = record {
  counted : l.number ≡ l.taken + l.edit-index;
  sound : IsSound l.number l.slots.values;
  channels : channels_of l.slots.values ≡ replay_edits (channels_of l.fn.slots.values) (take l.edit-index l.edits);
}
