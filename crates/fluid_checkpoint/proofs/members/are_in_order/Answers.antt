use Rattle.std.proofs.Common.{ap, ◌∙◌, rules}
use Rattle.std.proofs.lemmas.Fn.{always_returns_same}
use Rattle.std.specs.Ordering.{is_lt}
use Rattle.std.specs.FinMap.{is_sorted}
use Rattle.fluid_table.specs.Table.{byte_order}
use Rattle.fluid_table.proofs.Neighbours.{told}
use Rattle.fluid_table.proofs.Places.{byte_order_total, same_pairs}
use Rattle.fluid_checkpoint.proofs.members.are_in_order.Goals as goal

-- the closure compares the ids of two pairs
pub returns : goal.returns
returns g c =
    told (λ e. e.0) (λ e. e.1) byte_order_total c.args.pairs.now c.is_sorted_by.result
    (c.is_sorted_by.ensures.cases (λ x y. is_lt (byte_order x.0 y.0)) (always_returns_same _ _ _ (λ a r f called. search rules)))
    ∙ ap (is_sorted byte_order) (same_pairs c.args.pairs.now)
