use Rattle.std.proofs.Common.{◌≡◌, drop}
use Rattle.fluid_tree.specs.Summary.{children}
use Rattle.fluid_runtime.specs.AppTree.{find_child}
use Rattle.fluid_runtime.proofs.loading.find_child.Given as goal

-- the entries not yet looked at answer for all
abbrev pub invariant-loop-own : goal.invariant-loop-own
invariant-loop-own l = find_child l.name (children (drop l.own-index l.parts)) ≡ find_child l.name (children l.parts)
