-- Which keepers are out, for the crates above.
use Rattle.std.proofs.Common.{◌≡◌, ℕ, true, cond, List, Option, Some, is_some, refl, sym, ap, subst, ◌∙◌}
use Rattle.std.specs.Cmp.{tied_itself}
use Rattle.std.specs.Ordering.{is_eq}
use Rattle.std.specs.FinMap.{get, get-empty, get-insert}
use Rattle.fluid_log.specs.Keeping.{Keeping}
use Rattle.fluid_log.specs.Shelving.{Shelving, byte_order, IsIn, IsOut, AreWhole, GivesKeeper}
use Rattle.fluid_table.proofs.Places.{byte_order_total}

-- of whole shelves every keeper is in
pub whole_in : (s : Shelving) (name : List ℕ) → AreWhole s → IsIn s name
whole_in s name whole = ap (λ out. get out name) whole ∙ get-empty byte_order name

-- a keeper that was given is out
pub given_out : (name : List ℕ) (old new : Shelving) (keeper : Keeping) → GivesKeeper name old new keeper → IsOut new name
given_out name old new keeper gives =
    let there : get new.out name ≡ Some keeper.faults =
    ap (λ out. get out name) gives.out
    ∙ get-insert byte_order_total old.out name keeper.faults name
    ∙ ap (λ order. cond (is_eq order) (Some keeper.faults) (get old.out name)) (tied_itself byte_order_total name) in
    subst (λ (o : Option ℕ). is_some o ≡ true) (sym there) refl
