use Rattle.fluid_json.specs.Tree.{trees}
use Rattle.fluid_codec.proofs.ScopeWords.{held_from-none}
use Rattle.fluid_codec.proofs.forms.named_scopes.Goals as goal

pub loop-item-init : goal.loop-item-init
loop-item-init c = held_from-none c.args.field (trees c.args.items.now)
