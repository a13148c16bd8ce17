use Rattle.std.proofs.Common.{rules}
use Rattle.std.proofs.lemmas.Fn.{always_returns_same}
use Rattle.std.specs.Ordering.{is_lt}
use Rattle.std.specs.Cmp.Lexicographic.{nat_list_cmp_total}
use Rattle.fluid_table.specs.Table.{byte_order}
use Rattle.fluid_table.proofs.Neighbours.{told}
use Rattle.fluid_table.proofs.keyed.is_in_order.Goals as goal

-- the closure compares the keys of two entries
pub returns : goal.returns
returns g c =
    told g.T.Entry.key_of g.T.Entry.value_of nat_list_cmp_total c.args.entries.now c.is_sorted_by.result
    (c.is_sorted_by.ensures.cases (λ x y. is_lt (byte_order (g.T.Entry.key_of x) (g.T.Entry.key_of y))) (always_returns_same _ _ _ (λ a r f called. search rules)))
