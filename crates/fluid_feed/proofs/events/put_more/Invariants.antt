use Rattle.std.proofs.Common.{◌≡◌, ◌++◌, drop, map}
use Rattle.std.specs.Prelude.{string_bytes}
use Rattle.fluid_json.specs.Tree.{trees}
use Rattle.fluid_json.specs.Printed.{printed_more_items}
use Rattle.fluid_types.specs.Printed.{message_tree}
use Rattle.fluid_feed.proofs.events.put_more.Given as goal

-- what was put, and then the rest, is all
abbrev pub invariant-loop-text : goal.invariant-loop-text
invariant-loop-text l =
    string_bytes l.out ++ printed_more_items (trees (map message_tree (drop l.text-index l.texts))) ≡ string_bytes l.fn.out ++ printed_more_items (trees (map message_tree l.texts))
