use Rattle.std.proofs.Common.{◌≡◌, ◌++◌, map, drop}
use Rattle.fluid_tree.specs.Summary.{children, names}
use Rattle.fluid_store.proofs.listing.bare_entries.Given as goal

-- the names so far, and then those left, are all
abbrev pub invariant-loop-name : goal.invariant-loop-name
invariant-loop-name l = map (λ e. e.name) l.entries ++ names (children (drop l.name-index l.nodes)) ≡ names (children l.nodes)
