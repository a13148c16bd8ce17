use Rattle.std.proofs.Common.{rules}
use Rattle.std.proofs.lemmas.Fn.{always_returns_same}
use Rattle.std.specs.Ordering.{is_lt, nat_cmp}
use Rattle.std.specs.Cmp.{nat_cmp_total}
use Rattle.fluid_table.proofs.Neighbours.{told}
use Rattle.fluid_checkpoint.proofs.members.are_numbered.Goals as goal

-- the closure compares the numbers of two messages
pub returns : goal.returns
returns c =
    told (λ m. m.number) (λ m. m) nat_cmp_total c.args.messages.now c.is_sorted_by.result
    (c.is_sorted_by.ensures.cases (λ x y. is_lt (nat_cmp x.number y.number)) (always_returns_same _ _ _ (λ a r f called. search rules)))
