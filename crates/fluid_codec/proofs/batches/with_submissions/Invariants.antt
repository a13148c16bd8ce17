use Rattle.std.proofs.Common.{◌≡◌, length}
use Rattle.fluid_json.specs.Tree.{trees}
use Rattle.fluid_codec.specs.Behind.{behind}
use Rattle.fluid_codec.specs.Events.{each, alone}
use Rattle.fluid_codec.proofs.batches.with_submissions.Given as goal

-- what was read, and behind it what is read of the rest
abbrev pub invariant-loop-item : goal.invariant-loop-item
invariant-loop-item l = record {
  done : behind l.read (each (alone l.field) (trees l.item-iterator.rest.items)) ≡ behind l.fn.read (each (alone l.field) (trees l.fn.items));
  len : l.item-iterator.rest.len ≡ length l.item-iterator.rest.items;
}
