use Rattle.std.proofs.Common.{◌≡◌, drop}
use Rattle.std.specs.List.{list_all}
use Rattle.fluid_tree.specs.Ids.{is_lower_digit}
use Rattle.fluid_tree.proofs.id.is_lower.Given as goal

abbrev pub invariant-loop-byte : goal.invariant-loop-byte
invariant-loop-byte l = list_all is_lower_digit (drop l.byte-index l.bytes) ≡ list_all is_lower_digit l.bytes
