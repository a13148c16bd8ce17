-- The rows of a state that stands for a ledger: one for each joined client, in order.
use Rattle.std.proofs.Common.{◌≡◌, ℕ, suc, List, [], ◌∷◌, length, map, refl, ◌∙◌, ap, arith}
use Rattle.std.specs.FinMap.{from_entries, entries, keys, len, len-entries, entries-insert, empty, len-empty}
use Rattle.std.specs.FinMap.Entries.{put}
use Rattle.fluid_types.specs.Ledger.{Ledger}
use Rattle.fluid_rules.specs.Past.{IsBelowEach, AreInOrder}
use Rattle.fluid_rules.specs.Rules.{joined}
use Rattle.fluid_rules.proofs.Minimum.{joined-in_order}
use Rattle.fluid_clients.specs.Table.{byte_order}
use Rattle.fluid_clients.proofs.Laws.{byte_order_total}
use Rattle.fluid_clients.specs.declared.table.Row.{Row}
use Rattle.fluid_ticket.specs.State.{State}
use Rattle.fluid_ticket.specs.Ledger.{row_of, state_of, StandsFor, RowsAreJoined}

put_first : (f : List ℕ → Row) (id : List ℕ) (ids : List (List ℕ)) → IsBelowEach id ids →
    put byte_order id (f id) (map (λ id. (id, f id)) ids) ≡ (id, f id) ∷ map (λ id. (id, f id)) ids
put_first f id [] below = refl
put_first f id (first ∷ ids) below = rw below.0 refl

-- entries that are put in one by one, the last first, where they stand in order
kept : (f : List ℕ → Row) (ids : List (List ℕ)) → AreInOrder ids →
    entries (from_entries {R = byte_order} (map (λ id. (id, f id)) ids)) ≡ map (λ id. (id, f id)) ids
kept f [] order = none (entries (empty {R = byte_order})) (omega (arith, len-entries (empty {X = Row} {R = byte_order}), len-empty byte_order Row))
  where
    none : (es : List (List ℕ × Row)) → length es ≡ 0 → es ≡ []
    none [] h = refl
    none (e ∷ es) h = absurd (omega (arith, h))
kept f (id ∷ ids) order =
    entries-insert byte_order_total (from_entries {R = byte_order} (map (λ id. (id, f id)) ids)) id (f id)
    ∙ ap (put byte_order id (f id)) (kept f ids order.1)
    ∙ put_first f id ids order.0

named : (f : List ℕ → Row) (ids : List (List ℕ)) → map (λ (entry : List ℕ × Row). entry.0) (map (λ id. (id, f id)) ids) ≡ ids
named f [] = refl
named f (id ∷ ids) = ap (λ rest. id ∷ rest) (named f ids)

many : (f : List ℕ → Row) (ids : List (List ℕ)) → length {A = List ℕ × Row} (map (λ id. (id, f id)) ids) ≡ length ids
many f [] = refl
many f (id ∷ ids) = ap suc (many f ids)

pub rows-joined : RowsAreJoined
unfolding state_of
rows-joined s l stands = record {
  ids = ap (λ (q : State). keys q.rows) stands.is ∙ ap (λ es. map (λ entry. entry.0) es) (kept (row_of l) (joined l) (joined-in_order l)) ∙ named (row_of l) (joined l);
  as_many = ap (λ (q : State). len q.rows) stands.is ∙ len-entries _ ∙ ap length (kept (row_of l) (joined l) (joined-in_order l)) ∙ many (row_of l) (joined l);
}
