use Rattle.std.proofs.Common.{◌≡◌, List, drop, fold}
use Rattle.fluid_tree.specs.Object.{placed, in_order}
use Rattle.fluid_tree.specs.Sorted.{Stands}
use Rattle.fluid_tree.specs.declared.object.ObjectEntry.{ObjectEntry}
use Rattle.fluid_tree.proofs.writing.sorted.Given as goal

-- the entries so far stand in order, and those left are put among them
abbrev pub invariant-loop-entry : goal.invariant-loop-entry
invariant-loop-entry l =
    (done : List ObjectEntry) × (Stands l.sorted.entries done × (fold (λ es e. placed e es) done (drop l.entry-index l.entries) ≡ in_order l.entries))
