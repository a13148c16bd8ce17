use Rattle.std.proofs.Common.{◌≡◌, ◌+◌, ◌-◌, ◌*◌, ◌≤◌}
use Rattle.std.specs.FinMap.{len}
use Rattle.fluid_io.specs.Causes.{Tells}
use Rattle.fluid_store.specs.Complete.{is_complete, all_complete}
use Rattle.fluid_store.specs.Fetching.{Reads}
use Rattle.fluid_store.proofs.completing.complete.Given as goal

-- all is held where all below the ids of this level is, and no level took more gets than its bound
abbrev pub invariant-loop-above : goal.invariant-loop-above
invariant-loop-above g l = record {
  reads : Reads (g.O.Objects.seen l.fn.objects) (g.O.Objects.seen l.objects);
  answer : Tells (g.O.Objects.seen l.fn.objects).content (λ held. is_complete held 32 l.id ≡ all_complete held (33 - l.above) l.level.keys);
  gets : Tells (g.O.Objects.seen l.fn.objects).content (λ held. (g.O.Objects.seen l.objects).gets ≤ (g.O.Objects.seen l.fn.objects).gets + l.above * (len held + 1));
}
