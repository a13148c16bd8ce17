-- What a lane says of the ledger for which it stands.
use Rattle.std.proofs.Common.{◌≡◌, ℕ, ◌+◌, ◌≤◌, true, false, Bool, not, ◌&&◌, List, [], ◌∷◌, length, map, Option, Some, None, refl, sym, ap, ◌∙◌, arith}
use Rattle.std.specs.Prelude.{IsSome, nat_lt, nat_le, if◌then◌else◌}
use Rattle.std.specs.List.{list_any}
use Rattle.std.specs.Ordering.{eq_by_cmp}
use Rattle.std.specs.Option.{option_map, option_map_or}
use Rattle.std.specs.FinMap.{get, keys, len, contains_key-keys}
use Rattle.std.proofs.lemmas.Bool.{false≢true, false_from_ne_true, or_left, or_right}
use Rattle.std.proofs.lemmas.Option.{none-some, same_Some}
use Rattle.std.proofs.lemmas.Slice.Eq.{bytes_eq-Decides}
use Rattle.fluid_types.specs.declared.entries.Raw.{Raw}
use Rattle.fluid_types.specs.declared.entries.Raw.TheVariants.{Join, Leave}
use Rattle.fluid_types.specs.Names.{entry_name}
use Rattle.fluid_json.specs.Tree.{Tree}
use Rattle.fluid_types.specs.declared.entries.Scopes.{Scopes}
use Rattle.fluid_types.specs.declared.verdicts.Verdict.{Verdict}
use Rattle.fluid_types.specs.Ledger.{Ledger}
use Rattle.fluid_rules.specs.Past as past
use Rattle.fluid_rules.specs.Past.{Client}
use Rattle.fluid_rules.specs.Rules.{heard, client, is_joined, joined}
use Rattle.fluid_rules.specs.Counted as counting
use Rattle.fluid_rules.specs.Counted.{is_counted, counted, has_too_many_clients}
use Rattle.fluid_rules.proofs.Clients.{client-joined}
use Rattle.fluid_clients.specs.declared.table.Row.{Row}
use Rattle.fluid_clients.specs.Table.{byte_order}
use Rattle.fluid_ticket.specs.State as ticket
use Rattle.fluid_ticket.specs.Ledger as tickets
use Rattle.fluid_ticket.proofs.Ledgers.{rowed, get-state_of, tied_back, number_of, minimum_of}
use Rattle.fluid_ticket.proofs.JoinedRows.{rows-joined}
use Rattle.fluid_core.specs.Entering.{State, StandsFor, verdict_in, after, state_of}
use Rattle.fluid_core.proofs.Entered.{verdict-stands, stands-sequencer, stands-acks}
use Rattle.fluid_core.proofs.Jobs.{stands-job}
use Rattle.fluid_deltas.proofs.Telling.{tells_from}
use Rattle.fluid_types.specs.Forms.{largest}
use Rattle.fluid_document.proofs.Foldings.{state-entries_of, entered-entries_of, counted-entries_of}
use Rattle.fluid_lane.specs.declared.fault.LaneFault.TheVariants.{Full, TooManyClients}
use Rattle.fluid_lane.specs.Steps.{ledger}
use Rattle.fluid_lane.specs.Standing.{Standing, IsTold}
use Rattle.fluid_lane.specs.Refusals.{is_full_for, has_too_many}
use Rattle.fluid_lane.proofs.Named.{own_absent}
use Rattle.fluid_lane.specs.Starting.{run, leaves}
use Rattle.fluid_lane.specs.Sweeps.{is_silent, first_by, first_silent}
use Rattle.fluid_lane.specs.Laws.{first_silent_in, SaysOf, LaneSays, OpeningLeaves}

-- ---- who is silent

-- a client with a row was last heard of when the ledger says so
of_member : (o : Option Scopes) (f : Scopes → Client) (moment : ℕ) (row : Row) → ((scopes : Scopes) → (f scopes).heard ≡ moment) → option_map rowed (option_map f o) ≡ Some row → row.heard ≡ moment
of_member None f moment row each is = absurd (none-some _ is)
of_member (Some scopes) f moment row each is = ap (λ (r : Row). r.heard) (sym (same_Some _ _ is)) ∙ each scopes

heard_said : (l : Ledger) (id : List ℕ) (row : Row) → option_map rowed (client l id) ≡ Some row → row.heard ≡ heard l id
unfolding client past.client heard
heard_said l id row is = of_member (past.membership _ id) _ (heard l id) row (λ scopes. refl) is

same_first : (p q : List ℕ → Bool) (ids : List (List ℕ)) → ((id : List ℕ) → list_any (eq_by_cmp byte_order id) ids ≡ true → p id ≡ q id) → first_by p ids ≡ first_by q ids
same_first p q [] each = refl
same_first p q (id ∷ ids) each =
    ap (λ b. if b then Some id else first_by p ids) (each id (or_left _ _ (tied_back id id ∙ (bytes_eq-Decides id id).1 refl)))
    ∙ ap (λ rest. if q id then Some id else rest) (same_first p q ids (λ other there. each other (or_right _ _ there)))

silent_said : (l : Ledger) (moment silence : ℕ) (id : List ℕ) → IsSome (get (tickets.state_of l).rows id) → is_silent moment silence (tickets.state_of l).rows id ≡ nat_lt (heard l id + silence) moment
silent_said l moment silence id there = by (get (tickets.state_of l).rows id) refl there
  where
    by : (o : Option Row) → get (tickets.state_of l).rows id ≡ o → IsSome o → is_silent moment silence (tickets.state_of l).rows id ≡ nat_lt (heard l id + silence) moment
    by None is some = absurd (false≢true some)
    by (Some row) is some =
        ap (λ o. option_map_or (λ (r : Row). nat_lt (r.heard + silence) moment) o false) is ∙ ap (λ h. nat_lt (h + silence) moment) (heard_said l id row (sym (get-state_of l id) ∙ is))

silent_in : (s : ticket.State) (l : Ledger) → tickets.StandsFor s l → (moment silence : ℕ) → first_silent moment silence s.rows ≡ first_silent_in moment silence l
silent_in s l stands moment silence =
    ap (λ (t : ticket.State). first_silent moment silence t.rows) stands.is
    ∙ same_first (is_silent moment silence (tickets.state_of l).rows) (λ id. nat_lt (heard l id + silence) moment) (keys (tickets.state_of l).rows)
    (λ id there. silent_said l moment silence id (contains_key-keys (tickets.state_of l).rows id ∙ there))
    ∙ ap (first_by (λ id. nat_lt (heard l id + silence) moment)) (rows-joined (tickets.state_of l) l (record { is = refl })).ids

-- ---- rules that refuse

and_turned : (a b : Bool) → (a && b) ≡ (b && a)
and_turned true true = refl
and_turned true false = refl
and_turned false true = refl
and_turned false false = refl

full_for : (s : Standing) (l : Ledger) (raw : Raw) → s.entries.counted ≡ counted l → is_full_for s raw ≡ (counting.is_full s.limits.entries l raw, Full s.limits.entries)
full_for s l raw counts =
    ap (λ b. (b, Full s.limits.entries)) (ap (λ n. nat_le s.limits.entries n && is_counted raw) counts ∙ and_turned (nat_le s.limits.entries (counted l)) (is_counted raw))

-- who has no row isn't joined
not_joined : (l : Ledger) (id : List ℕ) → get (tickets.state_of l).rows id ≡ None → is_joined l id ≡ false
not_joined l id none = false_from_ne_true (is_joined l id) (λ is. none-some _ (sym none ∙ get-state_of l id ∙ ap (option_map rowed) (client-joined l id is)))

too_many_for : (s : Standing) (l : Ledger) (scopes : Scopes) (detail : Tree) (moment : ℕ) → length l ≤ largest → len s.entries.state.sequencer.rows ≡ length (joined l) → get s.entries.state.sequencer.rows (entry_name (length l)) ≡ None
    → get s.entries.state.sequencer.rows (entry_name (length l)) ≡ get (tickets.state_of l).rows (entry_name (length l))
    → has_too_many s ≡ (has_too_many_clients s.limits.clients l (Join (entry_name (length l)) scopes detail moment), TooManyClients)
too_many_for s l scopes detail moment few count none same =
    ap (λ b. (b, TooManyClients))
    (ap (nat_le s.limits.clients) count ∙ ap (λ b. not b && nat_le s.limits.clients (length (joined l))) (sym (not_joined l (entry_name (length l)) (sym same ∙ none))))

-- ---- the ledger

pub lane_says : LaneSays
lane_says s l stands =
    tells_from s.keeping.content (IsTold s l) (λ _. SaysOf s (ledger l))
    (λ c told.
    let is = told.stands in
    let state : s.entries.state ≡ state_of (ledger l) = ap (λ e. e.state) is.entries ∙ state-entries_of (ledger l) in
    let for : StandsFor s.entries.state (ledger l) = record { legal = is.kept.legal; is = state } in
    let ticket_stands = stands-sequencer s.entries.state (ledger l) for in
    let rows = rows-joined s.entries.state.sequencer (ledger l) ticket_stands in
    let entered : s.entries.entered ≡ length (ledger l) = ap (λ e. e.entered) is.entries ∙ entered-entries_of (ledger l) in
    let counts : s.entries.counted ≡ counted (ledger l) = ap (λ e. e.counted) is.entries ∙ counted-entries_of (ledger l) in
    record {
      legal = is.kept.legal;
      entered = entered;
      counted = counts;
      seq = number_of s.entries.state.sequencer (ledger l) ticket_stands;
      min = minimum_of s.entries.state.sequencer (ledger l) ticket_stands;
      clients = rows.ids;
      count = rows.as_many;
      silent = silent_in s.entries.state.sequencer (ledger l) ticket_stands;
      acks = stands-acks s.entries.state (ledger l) for;
      job = stands-job s.entries.state (ledger l) for;
      verdict = λ raw. verdict-stands s.entries.state raw (verdict_in s.entries.state raw) (ledger l) refl for;
      full = λ raw. full_for s (ledger l) raw counts;
      full_join = λ id scopes detail moment. ap (λ n. (nat_le s.limits.entries n, Full s.limits.entries)) counts;
      too_many = λ named scopes detail moment.
          too_many_for s (ledger l) scopes detail moment (omega (arith, is.kept.few)) rows.as_many
          (ap (get s.entries.state.sequencer.rows) (ap entry_name (sym entered)) ∙ own_absent s.entries.entered s.entries.state.sequencer.rows (omega (arith, is.kept.few, entered)) named)
          (ap (λ (t : ticket.State). get t.rows (entry_name (length (ledger l)))) ticket_stands.is);
    })
    stands.told

raws_of : (s : State) (raws : List Raw) → map (λ (entry : Raw × Verdict). entry.0) (run s raws) ≡ raws
raws_of s [] = refl
raws_of s (raw ∷ raws) = ap (λ rest. raw ∷ rest) (raws_of (after s raw (verdict_in s raw)) raws)

pub opening_leaves : OpeningLeaves
opening_leaves moment l legal =
    raws_of (state_of l) (leaves moment (state_of l))
    ∙ ap (map (λ id. Leave id moment)) (rows-joined (state_of l).sequencer l (stands-sequencer (state_of l) l (record { legal = legal; is = refl }))).ids
