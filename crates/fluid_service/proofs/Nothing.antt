-- Shelves in memory that have no places.
use Rattle.std.proofs.Common.{◌≡◌, ℕ, List, [], ◌∷◌, length, Option, refl, sym, ap, subst, ◌∙◌, arith}
use Rattle.std.specs.Prelude.{IfSome}
use Rattle.std.specs.FinMap.{empty, entries, from_sorted, get, get-empty, len-entries, len-empty}
use Rattle.fluid_table.specs.Table.{byte_order}
use Rattle.fluid_table.proofs.Maps.{from_sorted_nothing}
use Rattle.fluid_log.specs.Places.{Places, keeper_in, given_with, entries_where, values_where}
use Rattle.fluid_service.specs.Shelved.{IsKeeperKept}

none_in : {A : Type 0} (xs : List A) → length xs ≡ 0 → xs ≡ []
none_in [] is = refl
none_in (x ∷ xs) is = absurd (omega (arith, is))

module _ {X Y : Type 0} (value : X → Option Y) where
  pub values_none : values_where value (empty {X = X} {R = byte_order}) ≡ empty
  values_none =
      ap (λ es. from_sorted (entries_where value es)) (none_in (entries (empty {X = X} {R = byte_order})) (sym (len-entries (empty {X = X} {R = byte_order})) ∙ len-empty byte_order X))
      ∙ from_sorted_nothing byte_order

pub none_out : (places : Places) → places ≡ empty → values_where given_with places ≡ empty
none_out places is = ap (values_where given_with) is ∙ values_none given_with

pub none_held : (places : Places) → places ≡ empty → (name : List ℕ) → IfSome (get (values_where keeper_in places) name) IsKeeperKept
none_held places is name =
    subst (λ o. IfSome o IsKeeperKept) (sym (ap (λ m. get m name) (ap (values_where keeper_in) is ∙ values_none keeper_in) ∙ get-empty byte_order name)) tt
