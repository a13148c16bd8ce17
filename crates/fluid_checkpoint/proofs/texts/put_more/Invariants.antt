use Rattle.std.proofs.Common.{◌≡◌, ◌++◌, drop, map}
use Rattle.std.specs.Prelude.{string_bytes}
use Rattle.fluid_json.specs.Tree.{trees}
use Rattle.fluid_json.specs.Printed.{printed_more_items}
use Rattle.fluid_checkpoint.proofs.texts.put_more.Given as goal

-- what was put, and then the rest, is all
abbrev pub invariant-loop-item : goal.invariant-loop-item
invariant-loop-item g l =
    string_bytes l.out ++ printed_more_items (trees (map g.P.Prints.tree (drop l.item-index l.items))) ≡ string_bytes l.fn.out ++ printed_more_items (trees (map g.P.Prints.tree l.items))
