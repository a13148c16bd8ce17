use Rattle.std.proofs.Common.{◌≡◌, ◌++◌, ◌∷◌, drop}
use Rattle.json.specs.Token.{begin_array}
use Rattle.fluid_json.specs.Tree.{trees}
use Rattle.fluid_json.specs.Tokens.{trees_tokens}
use Rattle.fluid_checkpoint.specs.Reading.{each_trimmed}
use Rattle.fluid_checkpoint.proofs.trimming.put_each.Given as goal

-- what was printed, and then what is left, is all
abbrev pub invariant-loop-item : goal.invariant-loop-item
invariant-loop-item l = record {
  before : l.out.before ≡ l.fn.out.before;
  tokens : l.out.tokens ++ trees_tokens (each_trimmed l.fields (trees (drop l.item-index l.items))) ≡ l.fn.out.tokens ++ begin_array ∷ trees_tokens (each_trimmed l.fields (trees l.items));
}
