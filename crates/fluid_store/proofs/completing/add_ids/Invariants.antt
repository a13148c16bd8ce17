use Rattle.std.proofs.Common.{◌≡◌, ℕ, ◌&&◌, Bool, List, take}
use Rattle.std.specs.List.{list_all}
use Rattle.fluid_store.specs.Complete.{ids_of}
use Rattle.fluid_store.proofs.completing.add_ids.Given as goal

-- the ids of the entries so far were added
abbrev pub invariant-loop-entry : goal.invariant-loop-entry
invariant-loop-entry l = (test : List ℕ → Bool) → list_all test l.ids.keys ≡ (list_all test l.fn.ids.keys && list_all test (ids_of (take l.entry-index l.entries)))
