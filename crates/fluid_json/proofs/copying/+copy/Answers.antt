use Rattle.std.proofs.Common.{ap, arith}
use Rattle.fluid_json.specs.Tree.{depth}
use Rattle.fluid_json.proofs.Inside.{trees_depth-at, members_depth-at}
use Rattle.fluid_json.proofs.copying.+copy.Goals as goal

pub copy_items-copy_value-requires : goal.copy_items-copy_value-requires
copy_items-copy_value-requires t c =
    (omega (arith, c.decreases, trees_depth-at c.args.items.now c.loop-item.item-index c.item-item.result (omega arith), ap depth c.item-item.is), tt)

pub copy_pairs-copy_value-requires : goal.copy_pairs-copy_value-requires
copy_pairs-copy_value-requires t c =
    (omega (arith, c.decreases, members_depth-at c.args.pairs.now c.loop-key.key-index c.loop-key-item.result (omega arith), ap (λ m. depth m.1) c.loop-key-item.is), tt)
