use Rattle.std.proofs.Common.{take}
use Rattle.fluid_store.specs.Keeping.{Counts, Adds}
use Rattle.fluid_store.proofs.uploading.store_objects.Given as goal

-- the objects so far were added
abbrev pub invariant-loop-object : goal.invariant-loop-object
invariant-loop-object g l = record {
  counts : Counts (g.O.Objects.seen l.fn.objects) (g.O.Objects.seen l.objects);
  adds : Adds (take l.object-index l.list) (g.O.Objects.seen l.fn.objects).content (g.O.Objects.seen l.objects).content;
}
