use Rattle.std.proofs.Common.{ap, arith}
use Rattle.fluid_json.specs.Tree.{depth}
use Rattle.fluid_json.proofs.Inside.{trees_depth-at, members_depth-at}
use Rattle.fluid_json.proofs.printing.+print.Goals as goal

pub print_items-print_value-requires : goal.print_items-print_value-requires
print_items-print_value-requires t c =
    (omega (arith, c.decreases, trees_depth-at c.args.items.now c.loop-item.item-index c.item-item.result (omega arith), ap depth c.item-item.is), tt)

pub print_pairs-print_value-requires : goal.print_pairs-print_value-requires
print_pairs-print_value-requires t c =
    (omega (arith, c.decreases, members_depth-at c.args.pairs.now c.loop-name.name-index c.loop-name-item.result (omega arith), ap (λ m. depth m.1) c.loop-name-item.is), tt)
