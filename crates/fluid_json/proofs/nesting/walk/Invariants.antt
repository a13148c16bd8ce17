use Rattle.std.proofs.Common.{◌≡◌, ◌≤◌, drop}
use Rattle.fluid_json.specs.Spelled.{reaches}
use Rattle.fluid_json.specs.declared.nesting.Place.TheVariants.{Outside}
use Rattle.fluid_json.proofs.nesting.walk.Given as goal

-- what is left, from here on, answers for all
abbrev pub invariant-loop-byte : goal.invariant-loop-byte
invariant-loop-byte l = record {
  left : reaches l.top l.place l.depth (drop l.byte-index l.bytes) ≡ reaches l.top Outside 0 l.bytes;
  few : l.depth ≤ l.byte-index;
}
