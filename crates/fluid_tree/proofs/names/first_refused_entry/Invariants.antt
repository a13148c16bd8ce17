use Rattle.std.proofs.Common.{◌≡◌, ℕ, List, [], map, drop}
use Rattle.fluid_tree.specs.Names.{first_refused, Knows}
use Rattle.fluid_tree.proofs.names.first_refused_entry.Given as goal

-- the entries not yet looked at answer for all
abbrev pub invariant-loop-entry : goal.invariant-loop-entry
invariant-loop-entry l =
    (before : List (List ℕ)) × (Knows l.names.seen before × (first_refused before (map (λ e. e.name) (drop l.entry-index l.entries)) ≡ first_refused [] (map (λ e. e.name) l.entries)))
