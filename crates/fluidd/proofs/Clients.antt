-- What a sequencer that stands for a ledger keeps of its clients: as many rows as clients are joined, and a row for each.
use Rattle.std.proofs.Common.{◌≡◌, ℕ, ◌+◌, List, [], ◌∷◌, length, map, refl, ◌∙◌, ap, not, cond, Option, None, Some, is_some, is_none}
use Rattle.std.specs.FinMap.{from_entries, find, get, len, len-empty, len-insert, get-from_entries}
use Rattle.fluid_types.specs.Ledger.{Ledger}
use Rattle.fluid_types.specs.declared.entries.Raw.{Raw}
use Rattle.fluid_types.specs.declared.entries.Raw.TheVariants.{Join, Leave, Submit, Report}
use Rattle.fluid_rules.specs.Past.{IsBelowEach, AreInOrder}
use Rattle.fluid_rules.specs.Rules.{joined}
use Rattle.fluid_rules.proofs.Minimum.{joined-in_order}
use Rattle.fluid_clients.specs.Table.{byte_order}
use Rattle.fluid_clients.proofs.Laws.{byte_order_total}
use Rattle.fluid_clients.specs.declared.table.Row.{Row}
use Rattle.fluid_ticket.specs.State.{State}
use Rattle.fluid_ticket.specs.Ledger.{row_of, state_of, StandsFor}
use Rattle.fluid_ticket.proofs.Ledgers.{joined-state_of}
use Rattle.fluid_core.proofs.Entered.{stands-sequencer}
use Rattle.fluidd.specs.declared.document.Document.{Document}
use Rattle.fluid_rules.specs.declared.limits.Limits.{Limits}
use Rattle.fluid_rules.specs.Counted.{is_counted, is_new_client}
use Rattle.fluidd.specs.Input.{limit_refusal}
use Rattle.fluidd.specs.Documents.{limit_refusal_by, Stands, is_new_in}
use Rattle.std.proofs.Common.{add-one}

absent : (f : List ℕ → Row) (c : List ℕ) (ids : List (List ℕ)) → IsBelowEach c ids → find byte_order c (map (λ id. (id, f id)) ids) ≡ None
absent f c [] h = refl
absent f c (id ∷ ids) h = rw h.0 (absent f c ids h.1)

rows : (f : List ℕ → Row) (ids : List (List ℕ)) → AreInOrder ids → len (from_entries {R = byte_order} (map (λ id. (id, f id)) ids)) ≡ length ids
rows f [] h = len-empty byte_order Row
rows f (id ∷ ids) h =
    let others = from_entries {R = byte_order} (map (λ id. (id, f id)) ids) in
    let none : get others id ≡ None = get-from_entries byte_order_total (map (λ id. (id, f id)) ids) id ∙ absent f id ids h.0 in
    len-insert byte_order_total others id (f id) ∙ ap (λ o. cond (is_some o) (len others) (len others + 1)) none
    ∙ ap (λ n. n + 1) (rows f ids h.1) ∙ add-one (length ids)

pub rows-joined : (s : State) (l : Ledger) → StandsFor s l → len s.rows ≡ length (joined l)
unfolding state_of
rows-joined s l h = ap (λ (q : State). len q.rows) h.is ∙ rows (row_of l) (joined l) (joined-in_order l)

is_none-not : {X : Type 0} (o : Option X) → is_none o ≡ not (is_some o)
is_none-not None = refl
is_none-not (Some x) = refl

pub new-client : (s : State) (l : Ledger) (raw : Raw) → StandsFor s l → is_new_in s.rows raw ≡ is_new_client l raw
new-client s l (Join id scopes detail moment) h =
    ap (λ (q : State). is_none (get q.rows id)) h.is ∙ is_none-not (get (state_of l).rows id) ∙ ap not (joined-state_of l id)
new-client s l (Leave id moment) h = refl
new-client s l (Submit id submission moment) h = refl
new-client s l (Report summary found moment) h = refl

pub limit-refusal : (limits : Limits) (l : Ledger) (d : Document) (raw : Raw) → Stands limits l d →
    limit_refusal_by (is_counted raw) d.limits.entries d.counted (is_new_in d.core.state.sequencer.rows raw) d.limits.clients (len d.core.state.sequencer.rows)
    ≡ limit_refusal limits l raw
unfolding limit_refusal
limit-refusal limits l d raw s = let sequencer = stands-sequencer d.core.state l s.core in
    rw (s.limited, s.counted, new-client _ l raw sequencer, rows-joined _ l sequencer) refl
