use Rattle.std.proofs.Common.{◌≡◌, ◌==◌, ◌||◌, drop}
use Rattle.std.specs.List.{list_any}
use Rattle.fluid_tree.proofs.names.has_separator.Given as goal

abbrev pub invariant-loop-byte : goal.invariant-loop-byte
invariant-loop-byte l = list_any (λ x. x == 47 || x == 0) (drop l.byte-index l.bytes) ≡ list_any (λ x. x == 47 || x == 0) l.bytes
