use Rattle.std.proofs.Common.{◌≡◌, drop}
use Rattle.fluid_loader.specs.Version.{id_named}
use Rattle.fluid_loader.proofs.version.id_named.Given as goal

-- the entries not yet looked at answer for all
abbrev pub invariant-loop-entry : goal.invariant-loop-entry
invariant-loop-entry l = id_named l.otherwise l.name (drop l.entry-index l.entries) ≡ id_named l.otherwise l.name l.entries
