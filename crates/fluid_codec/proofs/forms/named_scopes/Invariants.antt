use Rattle.std.proofs.Common.{◌≡◌, drop}
use Rattle.fluid_json.specs.Tree.{trees}
use Rattle.fluid_codec.specs.Scopes.{named_scopes}
use Rattle.fluid_codec.proofs.ScopeWords.{held_from}
use Rattle.fluid_codec.proofs.forms.named_scopes.Given as goal

-- the scopes so far, and those that the rest names
abbrev pub invariant-loop-item : goal.invariant-loop-item
invariant-loop-item l = held_from l.scopes l.field (trees (drop l.item-index l.items)) ≡ named_scopes l.field (trees l.items)
