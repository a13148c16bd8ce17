use Rattle.std.proofs.Common.{◌≡◌, ◌++◌, drop, option_map}
use Rattle.fluid_json.specs.Tree.{trees}
use Rattle.fluid_checkpoint.specs.Reading.{each}
use Rattle.fluid_checkpoint.proofs.forms.each.Given as goal

-- what was read, and then what the rest is read as, is all
abbrev pub invariant-loop-item : goal.invariant-loop-item
invariant-loop-item g l =
    each (g.S.Shape.reads l.shape) (trees l.items) ≡ option_map (λ vs. l.values.items ++ vs) (each (g.S.Shape.reads l.shape) (trees (drop l.item-index l.items)))
