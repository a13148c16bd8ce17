-- Shelves and a store into which nothing was put.
use Rattle.std.proofs.Common.{◌≡◌, ℕ, List, [], ◌∷◌, length, Option, Some, None, refl, sym, ap, subst, ◌∙◌, arith}
use Rattle.std.specs.Prelude.{unwrap_or}
use Rattle.std.specs.FinMap.{FinMap, empty, entries, from_sorted, get, get-empty, len-entries, len-empty}
use Rattle.fluid_table.specs.Table.{byte_order}
use Rattle.fluid_table.proofs.Maps.{from_sorted_nothing}
use Rattle.fluid_log.specs.Keeping.{Keeping, nothing_kept}
use Rattle.fluid_log.specs.Shelving.{fresh, keeper_under}
use Rattle.fluid_log.specs.Places.{Places, keeper_in, entries_where, values_where}
use Rattle.fluid_store.specs.Held.{IsShort}
use Rattle.fluid_rules.specs.Rules.{ledger}
use Rattle.fluid_doors.specs.Laws.{NewIsKept}
use Rattle.fluid_transcript.specs.World.{new_document, document, first_world}
use Rattle.fluid_desk.specs.Stands.{IsKeeperOf}
use Rattle.fluid_holding.specs.Holding.{HoldsOwn}

none_in : {A : Type 0} (xs : List A) → length xs ≡ 0 → xs ≡ []
none_in [] is = refl
none_in (x ∷ xs) is = absurd (omega (arith, is))

-- no keeper is in where there is no place
pub none_held : (places : Places) → places ≡ empty → values_where keeper_in places ≡ empty
none_held places is =
    ap (values_where keeper_in) is
    ∙ ap (λ es. from_sorted (entries_where keeper_in es)) (none_in (entries (empty {R = byte_order})) (sym (len-entries (empty {R = byte_order})) ∙ len-empty byte_order _))
    ∙ from_sorted_nothing byte_order

-- a fresh keeper is that of a new document
fresh_is : NewIsKept → IsKeeperOf fresh new_document
unfolding ledger
fresh_is kept = record { content = nothing_kept; told = refl; kept = kept; checkpoints = refl }

pub new_documents : NewIsKept → (held : FinMap byte_order Keeping) → held ≡ empty → (name : List ℕ) → IsKeeperOf (keeper_under held name) (document (first_world empty empty) name)
new_documents kept held none name =
    subst (λ k. IsKeeperOf k (document (first_world empty empty) name)) (sym (ap (λ m. keeper_under m name) none ∙ ap (λ o. unwrap_or o fresh) (get-empty byte_order name)))
    (subst (λ d. IsKeeperOf fresh d) (sym (ap (λ o. unwrap_or o new_document) (get-empty byte_order name))) (fresh_is kept))

no_object : (id bytes : List ℕ) → get (empty {X = List ℕ} {R = byte_order}) id ≡ Some bytes → ⊥
no_object id bytes is = absurd (none_some bytes (sym (get-empty byte_order id) ∙ is))
  where
    none_some : (b : List ℕ) → ◌≡◌ {A = Option (List ℕ)} None (Some b) → ⊥
    none_some b same = cc

pub none_short : IsShort empty
none_short id bytes is = absurd (no_object id bytes is)

pub none_own : HoldsOwn empty
none_own id bytes is = absurd (no_object id bytes is)

-- none of its documents has an entry
pub no_entry : (name : List ℕ) → (document (first_world empty empty) name).raws ≡ []
no_entry name = ap (λ o. (unwrap_or o new_document).raws) (get-empty byte_order name)
