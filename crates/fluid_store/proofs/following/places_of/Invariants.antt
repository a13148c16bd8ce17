use Rattle.std.proofs.Common.{◌≡◌, take}
use Rattle.fluid_store.specs.Following.{places_of}
use Rattle.fluid_store.proofs.following.places_of.Given as goal

-- the places so far
abbrev pub invariant-loop-entry : goal.invariant-loop-entry
invariant-loop-entry l = l.places.values ≡ places_of (take l.entry-index l.entries)
