use Rattle.std.proofs.Common.{◌≡◌, drop}
use Rattle.fluid_tree.specs.Summary.{children}
use Rattle.fluid_runtime.specs.AppTree.{channels_answer, answer}
use Rattle.fluid_runtime.specs.Slots.{channels_of, AreNamed, IsSound}
use Rattle.fluid_runtime.proofs.loading.slots_of.Given as goal

-- the channels so far, and then those of the entries left, are the answer
abbrev pub invariant-loop-name : goal.invariant-loop-name
invariant-loop-name l = record {
  sound : IsSound 0 l.slots.values;
  named : AreNamed l.slots.values;
  rest : channels_answer (channels_of l.slots.values) (children (drop l.name-index l.entries)) ≡ answer l.tree;
}
