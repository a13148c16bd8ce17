use Rattle.std.proofs.Common.{drop}
use Rattle.fluid_json.specs.Tree.{trees, AreCanonical}
use Rattle.fluid_json.proofs.collections.are_canonical.Given as goal

-- where the items not yet looked at are canonical, all are
abbrev pub invariant-loop-item : goal.invariant-loop-item
invariant-loop-item l = AreCanonical (trees (drop l.item-index l.items)) → AreCanonical (trees l.items)
