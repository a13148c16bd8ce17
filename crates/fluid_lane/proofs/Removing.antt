-- Behind a leave of the first of the joined clients the others are joined.
use Rattle.std.proofs.Common.{◌≡◌, ℕ, Bool, true, false, cond, List, [], ◌∷◌, map, Option, Some, None, is_some, Ordering, refl, sym, ap, subst, ◌∙◌}
use Rattle.std.specs.Prelude.{T, ◌&&◌, ◌||◌}
use Rattle.std.specs.declared.cmp.Ordering.TheVariants.{Less, Equal, Greater}
use Rattle.std.specs.Ordering.{eq_by_cmp, is_eq, is_lt}
use Rattle.std.specs.List.{list_any}
use Rattle.std.specs.FinMap.{get, remove, keys, entries, entries_sorted, get-entries, get-remove, from_sorted, get-from_sorted, entries-from_sorted, same_map, contains_key-keys}
use Rattle.std.specs.FinMap.Entries.{find, below_all, is_sorted}
use Rattle.std.proofs.lemmas.Slice.Eq.{bytes_eq-Decides}
use Rattle.fluid_types.specs.declared.entries.Raw.TheVariants.{Leave}
use Rattle.fluid_clients.specs.declared.table.Row.{Row}
use Rattle.fluid_clients.specs.Table.{Rows, byte_order}
use Rattle.fluid_clients.proofs.Laws.{byte_order_total, byte_order-IsAntisymmetric}
use Rattle.fluid_ticket.specs.State as ticket
use Rattle.fluid_ticket.proofs.Ledgers.{tied_back}
use Rattle.fluid_rules.specs.Rules.{unsettled}
use Rattle.fluid_core.specs.Entering.{State, verdict_in, after}

first_of : (a b : Bool) → T (a && b) → T a
first_of true b h = tt
first_of false b h = h

second_of : (a b : Bool) → T (a && b) → T b
second_of true b h = h
second_of false b h = absurd h

not_tied : (r : Ordering) → T (is_lt r) → is_eq r ≡ false
not_tied Less h = refl
not_tied Equal h = absurd h
not_tied Greater h = refl

-- an id before all others isn't among them
none_below : (id : List ℕ) (es : List (List ℕ × Row)) → T (below_all byte_order id es) → find byte_order id es ≡ None
none_below id [] h = refl
none_below id (e ∷ es) h =
    ap (λ b. cond b (Some e.1) (find byte_order id es)) (not_tied (byte_order id e.0) (first_of (is_lt (byte_order id e.0)) (below_all byte_order id es) h))
    ∙ none_below id es (second_of (is_lt (byte_order id e.0)) (below_all byte_order id es) h)

without_first : (b : Bool) (row found : Option Row) → (b ≡ true → found ≡ None) → cond b None (cond b row found) ≡ found
without_first true row found none = sym (none refl)
without_first false row found none = refl

removed_get : (rows : Rows) (id : List ℕ) (row : Row) (es : List (List ℕ × Row)) → entries rows ≡ (id, row) ∷ es → T (is_sorted byte_order ((id, row) ∷ es)) → (q : List ℕ) → get (remove rows id) q ≡ get {R = byte_order} (from_sorted es) q
removed_get rows id row es is sorted q =
    let below = first_of (below_all byte_order id es) (is_sorted byte_order es) sorted in
    let rising = second_of (below_all byte_order id es) (is_sorted byte_order es) sorted in
    get-remove byte_order_total rows id q
    ∙ ap (cond (eq_by_cmp byte_order q id) None) (get-entries rows q ∙ ap (find byte_order q) is)
    ∙ without_first (eq_by_cmp byte_order q id) (Some row) (find byte_order q es)
    (λ tied. ap (λ k. find byte_order k es) (sym ((bytes_eq-Decides id q).0 (sym (tied_back q id) ∙ tied))) ∙ none_below id es below)
    ∙ sym (get-from_sorted byte_order es q rising)

first_removed : (rows : Rows) (id : List ℕ) (row : Row) (es : List (List ℕ × Row)) → entries rows ≡ (id, row) ∷ es → entries (remove rows id) ≡ es
first_removed rows id row es is =
    let sorted : T (is_sorted byte_order ((id, row) ∷ es)) = subst (λ l. T (is_sorted byte_order l)) is (entries_sorted rows) in
    ap entries (same_map byte_order_total byte_order-IsAntisymmetric (remove rows id) (from_sorted es) (removed_get rows id row es is sorted))
    ∙ entries-from_sorted byte_order es (second_of (below_all byte_order id es) (is_sorted byte_order es) sorted)

keys_removed : (rows : Rows) (id : List ℕ) (rest : List (List ℕ)) → keys rows ≡ id ∷ rest → keys (remove rows id) ≡ rest
keys_removed rows id rest same = by (entries rows) refl same
  where
    by : (es : List (List ℕ × Row)) → entries rows ≡ es → map (λ e. e.0) es ≡ id ∷ rest → keys (remove rows id) ≡ rest
    by [] is none = cc
    by (e ∷ es) is first =
        let own : e.0 ≡ id = cc in
        let others : map (λ (e : List ℕ × Row). e.0) es ≡ rest = cc in
        ap (map (λ e. e.0)) (first_removed rows id e.1 es (is ∙ ap (λ k. (k, e.1) ∷ es) own)) ∙ others

joined_first : (rows : Rows) (id : List ℕ) (rest : List (List ℕ)) → keys rows ≡ id ∷ rest → is_some (get rows id) ≡ true
joined_first rows id rest same =
    contains_key-keys rows id ∙ ap (list_any (eq_by_cmp byte_order id)) same ∙ ap (λ b. b || list_any (eq_by_cmp byte_order id) rest) (tied_back id id ∙ (bytes_eq-Decides id id).1 refl)

leave_removes : (s : State) (id : List ℕ) (moment : ℕ) → is_some (get s.sequencer.rows id) ≡ true → (after s (Leave id moment) (verdict_in s (Leave id moment))).sequencer.rows ≡ remove s.sequencer.rows id
unfolding after ticket.after ticket.change_of verdict_in ticket.verdict_in ticket.message_in unsettled
leave_removes s id moment is = rw is refl

pub keys-left : (s : State) (id : List ℕ) (rest : List (List ℕ)) (moment : ℕ) → keys s.sequencer.rows ≡ id ∷ rest → keys (after s (Leave id moment) (verdict_in s (Leave id moment))).sequencer.rows ≡ rest
keys-left s id rest moment same = ap keys (leave_removes s id moment (joined_first s.sequencer.rows id rest same)) ∙ keys_removed s.sequencer.rows id rest same
