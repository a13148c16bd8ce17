-- Clients that join one after another are all in.
use Rattle.std.proofs.Common.{◌≡◌, ℕ, Bool, true, false, cond, List, [], ◌∷◌, Some, None, Option, refl, sym, ap, ◌∙◌}
use Rattle.std.specs.Option.{option_or}
use Rattle.std.specs.Ordering.{is_eq, eq_by_cmp}
use Rattle.std.specs.declared.cmp.Ordering.{Ordering}
use Rattle.std.specs.declared.cmp.Ordering.TheVariants.{Less, Equal, Greater}
use Rattle.std.specs.FinMap.{get, empty, from_entries, get-empty, get-insert, get-from_entries, get-entries, entries, find}
use Rattle.std.specs.FinMap.Entries.{find_tied}
use Rattle.fluid_table.specs.Table.{byte_order}
use Rattle.fluid_table.proofs.Places.{byte_order_total, same_values}
use Rattle.fluid_clients.specs.declared.table.Row.{Row}
use Rattle.fluid_clients.specs.Table.{Rows}
use Rattle.fluid_checkpoint.specs.Joined.{taken_in, all_in}

equal : (r : Ordering) → is_eq r ≡ true → r ≡ Equal
equal Less p = cc
equal Equal p = refl
equal Greater p = cc

-- ids that tie have one row
tied : (rows : Rows) (q id : List ℕ) → eq_by_cmp byte_order q id ≡ true → get rows id ≡ get rows q
tied rows q id same =
    get-entries rows id ∙ find_tied byte_order byte_order_total q id (equal (byte_order q id) same) (entries rows) ∙ sym (get-entries rows q)

step : (rows : Rows) (id : List ℕ) (row : Row) (q : List ℕ) (more : Option Row) (here : Option Row) (own : Option Row) (same : Bool) → get rows id ≡ own → get rows q ≡ here → eq_by_cmp byte_order q id ≡ same
    → (same ≡ true → own ≡ here) → option_or (get (taken_in rows id row) q) more ≡ option_or here (cond same (Some row) more)
step rows id row q more here (Some w) false own_is here_is same_is ties = rw (own_is, here_is) refl
step rows id row q more here (Some w) true own_is here_is same_is ties = rw (own_is, here_is, sym (ties refl)) refl
step rows id row q more here None false own_is here_is same_is ties = rw (own_is, get-insert byte_order_total rows id row q, same_is, here_is) refl
step rows id row q more here None true own_is here_is same_is ties = rw (own_is, get-insert byte_order_total rows id row q, same_is, sym (ties refl)) refl

get_in : (clients : List (List ℕ × Row)) (rows : Rows) (q : List ℕ) → get (all_in rows clients) q ≡ option_or (get rows q) (find byte_order q clients)
get_in [] rows q = nothing (get rows q)
  where
    nothing : (o : Option Row) → o ≡ option_or o None
    nothing None = refl
    nothing (Some row) = refl
get_in (client ∷ clients) rows q =
    get_in clients (taken_in rows client.0 client.1) q
    ∙ step rows client.0 client.1 q (find byte_order q clients) (get rows q) (get rows client.0) (eq_by_cmp byte_order q client.0) refl refl refl (tied rows q client.0)

pub all_are_in : (clients : List (List ℕ × Row)) → all_in empty clients ≡ from_entries clients
all_are_in clients =
    same_values _ _ (λ q. get_in clients empty q ∙ ap (λ o. option_or o (find byte_order q clients)) (get-empty byte_order q) ∙ sym (get-from_entries byte_order_total clients q))
