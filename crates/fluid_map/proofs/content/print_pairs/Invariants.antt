use Rattle.std.proofs.Common.{◌≡◌, ◌++◌, [], drop}
use Rattle.std.specs.List.{AllWithin}
use Rattle.fluid_json.specs.Tree.{object, members, IsCanonical}
use Rattle.fluid_json.specs.Tokens.{tokens_of, members_tokens}
use Rattle.fluid_map.proofs.content.print_pairs.Given as goal

-- what was printed, and then what is left, is all; and each value so far is canonical
abbrev pub invariant-loop-key : goal.invariant-loop-key
invariant-loop-key l = record {
  before : l.printer.before ≡ [];
  tokens : l.printer.tokens ++ members_tokens (members (drop l.key-index l.pairs)) ≡ tokens_of (object (members l.pairs));
  canonical : AllWithin (λ pair. IsCanonical pair.1) l.pairs 0 l.key-index;
}
