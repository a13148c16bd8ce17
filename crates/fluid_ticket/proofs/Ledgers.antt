-- The state of a ledger: what it says of each client, what one entry more makes of it, and its verdicts.
use Rattle.std.proofs.Common.{◌≡◌, ℕ, ◌+◌, ◌⊎◌, inl, inr, pos, Bool, true, false, cond, ◌||◌, List, [], ◌∷◌, ◌++◌, map, length, Some, None, Option, is_some, bytes_eq, refl, sym, ap, ◌∙◌}
use Rattle.std.proofs.Common.{Result, Ok, Err, IfOk}
use Rattle.fluid_json.specs.declared.memory.NoMemory.{NoMemory}
use Rattle.std.specs.Option.{unwrap_or, option_map}
use Rattle.std.specs.Ordering.{eq_by_cmp}
use Rattle.std.specs.Cmp.{eq_by_cmp_equiv}
use Rattle.std.specs.FinMap.{get, insert, get-from_entries, get-insert, get-remove, same_map}
use Rattle.std.specs.FinMap.Entries.{find}
use Rattle.std.proofs.lemmas.Bool.{false≢true}
use Rattle.std.proofs.lemmas.Option.{none-some, same_Some}
use Rattle.std.proofs.lemmas.Map.Text.{is_eq-slice_cmp}
use Rattle.fluid_types.specs.declared.entries.Raw.{Raw}
use Rattle.fluid_types.specs.declared.entries.Raw.TheVariants.{Join, Leave, Submit, Report}
use Rattle.fluid_types.specs.declared.entries.Scopes.{Scopes}
use Rattle.fluid_types.specs.declared.entries.Submission.{Submission}
use Rattle.fluid_types.specs.declared.messages.Message.{Message}
use Rattle.fluid_types.specs.declared.nacks.Nack.{Nack}
use Rattle.fluid_types.specs.declared.nacks.NackRule.TheVariants.{Gap, Nonexistent, Below, Ahead, Scope}
use Rattle.fluid_types.specs.declared.verdicts.Verdict.{Verdict}
use Rattle.fluid_types.specs.declared.verdicts.Verdict.TheVariants.{Sequenced, Nacked, Dropped, Absorbed}
use Rattle.fluid_types.specs.Ledger.{Ledger, messages_of, order, seq}
use Rattle.fluid_types.proofs.Ledgers.{seq-push}
use Rattle.fluid_rules.specs.Past as past
use Rattle.fluid_rules.specs.Past.{Client, IsLeast, has_id, is_below, count_of, read_as, client_behind, client_submitting, client_heard}
use Rattle.fluid_rules.specs.Rules as rules
use Rattle.fluid_rules.specs.Rules.{past_of, is_joined, last_number, is_nacked, reference, scopes, heard, client, joined, last_minimum, last_minimum_behind, answer_message, submission_message, unsettled, settled, sequenced, first_case}
use Rattle.fluid_rules.specs.Scribe as scribe
use Rattle.fluid_rules.specs.Scribe.{reported}
use Rattle.fluid_rules.specs.declared.answers.Answer.{Answer}
use Rattle.fluid_rules.proofs.Ids.{same_id, own_id}
use Rattle.fluid_rules.proofs.Minimum.{joined-has, is_joined-client, minimum-is_least, least-unique}
use Rattle.fluid_rules.proofs.Pushed.{client-push}
use Rattle.fluid_rules.proofs.Heard.{last_minimum-push}
use Rattle.fluid_rules.proofs.Taken.{lifted-least}
use Rattle.fluid_clients.specs.declared.table.Row.{Row}
use Rattle.fluid_clients.specs.Table.{Rows, byte_order, change_row, least, least_with}
use Rattle.fluid_clients.proofs.Laws.{byte_order_total, byte_order-IsAntisymmetric, least-reached, least-none, insert-again, change-there}
use Rattle.fluid_ticket.specs.declared.ready.Change.TheVariants.{Nothing, Holds, Hears}
use Rattle.fluid_ticket.specs.declared.outcome.Outcome.TheVariants.{Duplicate, Refused, Admitted}
use Rattle.fluid_ticket.specs.State as state
use Rattle.fluid_ticket.specs.State.{State, start, change_of, changed, after, settled_in, message_in, first_fit, outcome_by, outcome_at, outcome, verdict_of, verdict_in, is_absorbed, Prepared, prepared}
use Rattle.fluid_ticket.specs.Ledger.{row_of, state_of, StandsFor, IsAnswered}
use Rattle.fluid_ticket.proofs.Sound.{minimum-le-reference}

-- ---- what the state says of a client

-- a row with what is said of its client
abbrev pub rowed : Client → Row
rowed c = record { last = c.last; reference = c.reference; nacked = c.nacked; scopes = c.scopes; heard = c.heard }

-- ids that tie are equal
ties : (q id : List ℕ) → eq_by_cmp byte_order q id ≡ bytes_eq q id
ties q id = is_eq-slice_cmp q id

found_at : (f : List ℕ → Row) (q id : List ℕ) (same : Bool) (rest : Option Row) (more : Bool) → bytes_eq q id ≡ same → rest ≡ cond more (Some (f q)) None →
    cond same (Some (f id)) rest ≡ cond (same || more) (Some (f q)) None
found_at f q id true rest more h is = ap (λ i. Some (f i)) (sym (same_id q id h))
found_at f q id false rest more h is = is

found_in : (f : List ℕ → Row) (q : List ℕ) (ids : List (List ℕ)) → find byte_order q (map (λ id. (id, f id)) ids) ≡ cond (has_id q ids) (Some (f q)) None
found_in f q [] = refl
found_in f q (id ∷ ids) = rw (ties q id) (found_at f q id (bytes_eq q id) _ (has_id q ids) refl (found_in f q ids))

said_at : (ledger : Ledger) (q : List ℕ) (held : Option Scopes) → past.membership (past_of ledger) q ≡ held →
    cond (is_joined ledger q) (Some (row_of ledger q)) None ≡ option_map rowed (client ledger q)
unfolding is_joined last_number is_nacked reference scopes heard client past.client
said_at ledger q None h = rw h
said_at ledger q (Some held) h = rw h

-- the row of a client has what the ledger says of it
pub get-state_of : (ledger : Ledger) (q : List ℕ) → get (state_of ledger).rows q ≡ option_map rowed (client ledger q)
unfolding state_of
get-state_of ledger q =
    get-from_entries byte_order_total (map (λ id. (id, row_of ledger id)) (joined ledger)) q
    ∙ found_in (row_of ledger) q (joined ledger)
    ∙ ap (λ b. cond b (Some (row_of ledger q)) None) (joined-has ledger q)
    ∙ said_at ledger q (past.membership (past_of ledger) q) refl

pub sequence-state_of : (ledger : Ledger) → (state_of ledger).sequence ≡ seq ledger
unfolding state_of
sequence-state_of ledger = refl

last_minimum-state_of : (ledger : Ledger) → (state_of ledger).last_minimum ≡ last_minimum ledger
unfolding state_of
last_minimum-state_of ledger = refl

-- ---- the minimum

record SaidOf (o : Option Client) (row : Row) : Type 0 where
  said : Client
  is : o ≡ Some said
  has : rowed said ≡ row

said_of : (o : Option Client) (row : Row) → option_map rowed o ≡ Some row → SaidOf o row
said_of None row is = absurd (none-some row is)
said_of (Some c) row is = record { said = c; is = refl; has = same_Some _ _ is }

nothing_of : (o : Option Client) → option_map rowed o ≡ None → o ≡ None
nothing_of None is = refl
nothing_of (Some c) is = absurd (none-some _ (sym is))

-- rows that have what is said of each client have the least reference that is said
module _ (rows : Rows) (said : List ℕ → Option Client) (sequence : ℕ) (told : (c : List ℕ) → get rows c ≡ option_map rowed (said c)) where
  reached : (o : Option ℕ) → least rows ≡ o →
      ((c : List ℕ) × ((client : Client) × ((said c ≡ Some client) × (unwrap_or o sequence ≡ client.reference))))
      ⊎ (((c : List ℕ) → said c ≡ None) × (unwrap_or o sequence ≡ sequence))
  reached None is = inr (λ c. nothing_of _ (sym (told c) ∙ least-none rows c is), refl)
  reached (Some m) is =
      let found = least-reached rows m is in
      let there = said_of (said found.id) found.row (sym (told found.id) ∙ found.there) in
      inl (found.id, (there.said, (there.is, found.is ∙ ap (λ (row : Row). row.reference) (sym there.has))))

  rows_least : IsLeast said sequence (unwrap_or (least rows) sequence)
  rows_least = record {
    below = λ c client is. minimum-le-reference (record { sequence = sequence; last_minimum = 0; rows = rows }) c (rowed client) (told c ∙ ap (option_map rowed) is);
    reached = reached (least rows) refl;
  }

state_least : (ledger : Ledger) → IsLeast (client ledger) (seq ledger) (state.minimum (state_of ledger))
unfolding state_of
state_least ledger = rows_least (state_of ledger).rows (client ledger) (seq ledger) (get-state_of ledger)

-- the minimum of its state is that of the ledger
pub minimum-state_of : (ledger : Ledger) → state.minimum (state_of ledger) ≡ rules.minimum ledger
minimum-state_of ledger = least-unique (client ledger) (seq ledger) _ _ (state_least ledger) (minimum-is_least ledger)

-- ---- one entry more

-- a submission that is sequenced or absorbed is one of a client in order
abbrev pub IsFollowed : State → Raw → Verdict → Type 0
IsFollowed s (Submit id submission moment) (Sequenced message) = (row : Row) → get s.rows id ≡ Some row → row.nacked ≡ false
IsFollowed s (Submit id submission moment) Absorbed = (row : Row) → get s.rows id ≡ Some row → row.nacked ≡ false
IsFollowed s raw verdict = Unit {0}

pub tied_back : (q id : List ℕ) → eq_by_cmp byte_order q id ≡ bytes_eq id q
tied_back q id = (eq_by_cmp_equiv byte_order_total).symm q id ∙ ties id q

nothing_at : (rows : Rows) (id q : List ℕ) (same : Bool) → bytes_eq id q ≡ same → get rows id ≡ None → get rows q ≡ cond same None (get rows q)
nothing_at rows id q true h none = ap (get rows) (sym (same_id id q h)) ∙ none
nothing_at rows id q false h none = refl

-- what is in the table under an id behind a change of the row under another
pub get_changed : (rows : Rows) (id q : List ℕ) (f : Row → Row) (o : Option Row) → get rows id ≡ o →
    get (change_row id f rows) q ≡ cond (bytes_eq id q) (option_map f o) (get rows q)
get_changed rows id q f None is = rw is (nothing_at rows id q (bytes_eq id q) refl is)
get_changed rows id q f (Some row) is = rw is (get-insert byte_order_total rows id (f row) q ∙ ap (λ b. cond b (Some (f row)) (get rows q)) (tied_back q id))

-- two changes of one row are one change
pub changed_twice : (rows mid new : Rows) (id : List ℕ) (f g : Row → Row) → is_some (get rows id) ≡ true → ((row : Row) → get rows id ≡ Some row → mid ≡ insert rows id (f row)) →
    new ≡ change_row id g mid → new ≡ change_row id (λ row. g (f row)) rows
changed_twice rows mid new id f g joined first second =
    elim (get rows id) as (λ o. get rows id ≡ o → new ≡ change_row id (λ row. g (f row)) rows) [
      | None ↦ λ none. absurd (false≢true (sym (ap is_some none) ∙ joined))
      | Some row ↦ λ there.
          let made : mid ≡ insert rows id (f row) = first row there in
          let found : get mid id ≡ Some (f row) =
          ap (λ m. get m id) made ∙ get-insert byte_order_total rows id (f row) id ∙ ap (λ b. cond b (Some (f row)) (get rows id)) (ties id id ∙ own_id id) in
          second
          ∙ change-there mid id g (f row) found
          ∙ ap (λ m. insert m id (g (f row))) made
          ∙ insert-again rows id (f row) (g (f row))
          ∙ sym (change-there rows id (λ row. g (f row)) row there)
    ] refl

-- a choice between what is said is the choice between the rows
chosen : (b : Bool) (said other : Option Client) (o : Option Row) → o ≡ option_map rowed other → cond b (option_map rowed said) o ≡ option_map rowed (cond b said other)
chosen true said other o is = refl
chosen false said other o is = is

-- a change of a row is a change of what is said, where both agree on what was said
changed_at : (rows : Rows) (id q : List ℕ) (f : Row → Row) (g : Client → Client) (k : Option Client) (same : Bool) → bytes_eq id q ≡ same →
    get rows q ≡ option_map rowed k → ((c : Client) → get rows id ≡ Some (rowed c) → f (rowed c) ≡ rowed (g c)) →
    cond same (option_map f (get rows id)) (get rows q) ≡ option_map rowed (cond same (option_map g k) k)
changed_at rows id q f g k false h is agree = is
changed_at rows id q f g None true h is agree = ap (option_map f) (ap (get rows) (same_id id q h) ∙ is)
changed_at rows id q f g (Some c) true h is agree =
    let there : get rows id ≡ Some (rowed c) = ap (get rows) (same_id id q h) ∙ is in
    ap (option_map f) there ∙ ap Some (agree c there)

-- a client that is heard of, and nothing else
heard_get : (s : State) (id : List ℕ) (moment : ℕ) (q : List ℕ) (k : Option Client) → get s.rows q ≡ option_map rowed k →
    get (changed (Hears id moment) s.rows) q ≡ option_map rowed (cond (bytes_eq id q) (option_map (client_heard moment) k) k)
heard_get s id moment q k is =
    get_changed s.rows id q (λ row. record row { heard = moment }) (get s.rows id) refl
    ∙ changed_at s.rows id q _ (client_heard moment) k (bytes_eq id q) refl is (λ c there. refl)

-- what a submission with this verdict makes of its client
abbrev submitting : State → Submission → ℕ → Verdict → Client → Client
submitting s submission moment verdict c = client_heard moment (client_submitting s.sequence submission verdict c)

unheld : (s : State) (submission : Submission) (moment : ℕ) (nack : Nack) (c : Client) → is_below nack.rule ≡ false →
    record (rowed c) { heard = moment } ≡ rowed (submitting s submission moment (Nacked nack) c)
unheld s submission moment nack c h = rw h

held : (s : State) (submission : Submission) (moment : ℕ) (nack : Nack) (c : Client) → is_below nack.rule ≡ true →
    record (rowed c) { last = submission.client_number; reference = count_of nack.minimum; nacked = true; heard = moment }
    ≡ rowed (submitting s submission moment (Nacked nack) c)
held s submission moment nack c h = rw h

nacked_get : (s : State) (id : List ℕ) (submission : Submission) (moment : ℕ) (nack : Nack) (q : List ℕ) (k : Option Client) (below : Bool) → is_below nack.rule ≡ below → get s.rows q ≡ option_map rowed k →
    get (changed (cond below (Holds id submission.client_number (count_of nack.minimum) moment) (Hears id moment)) s.rows) q
    ≡ option_map rowed (cond (bytes_eq id q) (option_map (submitting s submission moment (Nacked nack)) k) k)
nacked_get s id submission moment nack q k true h is =
    get_changed s.rows id q (λ row. record row { last = submission.client_number; reference = count_of nack.minimum; nacked = true; heard = moment }) (get s.rows id) refl
    ∙ changed_at s.rows id q _ (submitting s submission moment (Nacked nack)) k (bytes_eq id q) refl is (λ c there. held s submission moment nack c h)
nacked_get s id submission moment nack q k false h is =
    get_changed s.rows id q (λ row. record row { heard = moment }) (get s.rows id) refl
    ∙ changed_at s.rows id q _ (submitting s submission moment (Nacked nack)) k (bytes_eq id q) refl is (λ c there. unheld s submission moment nack c h)

in_order : (s : State) (submission : Submission) (moment : ℕ) (message : Message) (c : Client) → c.nacked ≡ false →
    record (rowed c) { last = submission.client_number; reference = count_of message.reference; heard = moment }
    ≡ rowed (submitting s submission moment (Sequenced message) c)
in_order s submission moment message c h = rw h

absorbed_in_order : (s : State) (submission : Submission) (moment : ℕ) (c : Client) → c.nacked ≡ false →
    record (rowed c) { last = submission.client_number; reference = read_as s.sequence submission.reference; heard = moment }
    ≡ rowed (submitting s submission moment Absorbed c)
absorbed_in_order s submission moment c h = rw h

-- the rows behind an entry have what is then said of each client
after_get : (s : State) (raw : Raw) (verdict : Verdict) (q : List ℕ) (k : Option Client) → get s.rows q ≡ option_map rowed k → IsFollowed s raw verdict →
    get (after s raw verdict).rows q ≡ option_map rowed (client_behind (raw, verdict) s.sequence (state.minimum s) q k)
unfolding after change_of
after_get s (Join id scopes detail moment) (Sequenced message) q k is followed =
    let row : Row = record { last = 0; reference = state.minimum s; nacked = false; scopes = scopes; heard = moment } in
    get-insert byte_order_total s.rows id row q
    ∙ ap (λ b. cond b (Some row) (get s.rows q)) (tied_back q id)
    ∙ chosen (bytes_eq id q) (Some (record { last = 0; reference = state.minimum s; nacked = false; scopes = scopes; heard = moment })) k (get s.rows q) is
after_get s (Join id scopes detail moment) (Nacked nack) q k is followed = heard_get s id moment q k is
after_get s (Join id scopes detail moment) Dropped q k is followed = heard_get s id moment q k is
after_get s (Join id scopes detail moment) Absorbed q k is followed = heard_get s id moment q k is
after_get s (Leave id moment) (Sequenced message) q k is followed =
    get-remove byte_order_total s.rows id q
    ∙ ap (λ b. cond b None (get s.rows q)) (tied_back q id)
    ∙ chosen (bytes_eq id q) None k (get s.rows q) is
after_get s (Leave id moment) (Nacked nack) q k is followed = heard_get s id moment q k is
after_get s (Leave id moment) Dropped q k is followed = heard_get s id moment q k is
after_get s (Leave id moment) Absorbed q k is followed = heard_get s id moment q k is
after_get s (Submit id submission moment) (Sequenced message) q k is followed =
    get_changed s.rows id q (λ row. record row { last = submission.client_number; reference = count_of message.reference; heard = moment }) (get s.rows id) refl
    ∙ changed_at s.rows id q _ (submitting s submission moment (Sequenced message)) k (bytes_eq id q) refl is
    (λ c there. in_order s submission moment message c (followed (rowed c) there))
after_get s (Submit id submission moment) (Nacked nack) q k is followed = nacked_get s id submission moment nack q k (is_below nack.rule) refl is
after_get s (Submit id submission moment) Dropped q k is followed = heard_get s id moment q k is
after_get s (Submit id submission moment) Absorbed q k is followed =
    get_changed s.rows id q (λ row. record row { last = submission.client_number; reference = read_as s.sequence submission.reference; heard = moment }) (get s.rows id) refl
    ∙ changed_at s.rows id q _ (submitting s submission moment Absorbed) k (bytes_eq id q) refl is
    (λ c there. absorbed_in_order s submission moment c (followed (rowed c) there))
after_get s (Report summary found moment) (Sequenced message) q k is followed = is
after_get s (Report summary found moment) (Nacked nack) q k is followed = is
after_get s (Report summary found moment) Dropped q k is followed = is
after_get s (Report summary found moment) Absorbed q k is followed = is

-- an entry brings one number at most
pub after-sequence : (s : State) (raw : Raw) (verdict : Verdict) → (after s raw verdict).sequence ≡ s.sequence + length (messages_of verdict)
unfolding after
after-sequence s raw verdict = refl

pub after-last_minimum : (s : State) (raw : Raw) (verdict : Verdict) → (after s raw verdict).last_minimum ≡ last_minimum_behind s.last_minimum verdict
unfolding after
after-last_minimum s raw verdict = refl

pub same_state : (s t : State) → s.sequence ≡ t.sequence → s.last_minimum ≡ t.last_minimum → s.rows ≡ t.rows → s ≡ t
same_state s t sequence last_minimum rows = λ i. record { sequence = sequence i; last_minimum = last_minimum i; rows = rows i }

-- the state of a ledger with one entry more
pub state_of-push : (ledger : Ledger) (raw : Raw) (verdict : Verdict) → IsFollowed (state_of ledger) raw verdict →
    state_of (ledger ++ (raw, verdict) ∷ []) ≡ after (state_of ledger) raw verdict
state_of-push ledger raw verdict followed =
    same_state _ _
    (sequence-state_of (ledger ++ (raw, verdict) ∷ []) ∙ seq-push ledger (raw, verdict) ∙ ap (λ n. n + length (messages_of verdict)) (sym (sequence-state_of ledger)) ∙ sym (after-sequence (state_of ledger) raw verdict))
    (last_minimum-state_of (ledger ++ (raw, verdict) ∷ [])
    ∙ last_minimum-push ledger (raw, verdict)
    ∙ ap (λ n. last_minimum_behind n verdict) (sym (last_minimum-state_of ledger))
    ∙ sym (after-last_minimum (state_of ledger) raw verdict))
    (same_map byte_order_total byte_order-IsAntisymmetric _ _ (λ q.
    get-state_of (ledger ++ (raw, verdict) ∷ []) q
    ∙ ap (option_map rowed) (client-push ledger (raw, verdict) q)
    ∙ ap (λ n. option_map rowed (client_behind (raw, verdict) n (rules.minimum ledger) q (client ledger q))) (sym (sequence-state_of ledger))
    ∙ ap (λ m. option_map rowed (client_behind (raw, verdict) (state_of ledger).sequence m q (client ledger q))) (sym (minimum-state_of ledger))
    ∙ sym (after_get (state_of ledger) raw verdict q (client ledger q) (get-state_of ledger q) followed)))

-- ---- the verdict

-- what the rules ask the scribe over the order, and the answer handed in
answered_same : (ledger : Ledger) (answer : Answer) (raw : Raw) (number : ℕ) → IsAnswered ledger raw answer →
    unsettled number (λ summary found. answer) raw ≡ unsettled number (scribe.answer (order ledger)) raw
unfolding unsettled
answered_same ledger answer (Join id scopes detail moment) number is = refl
answered_same ledger answer (Leave id moment) number is = refl
answered_same ledger answer (Submit id submission moment) number is = refl
answered_same ledger answer (Report summary found moment) number is =
    ap (λ a. option_map (answer_message number moment) (reported summary a)) is

settled-state_of : (ledger : Ledger) (raw : Raw) (m : Message) → IsFollowed (state_of ledger) raw (Sequenced m) → settled_in (state_of ledger) raw m ≡ settled ledger raw m
settled-state_of ledger raw m followed =
    ap (λ (n : ℕ). record m { minimum = n }) (sym (sym (minimum-state_of (ledger ++ (raw, Sequenced m) ∷ [])) ∙ ap state.minimum (state_of-push ledger raw (Sequenced m) followed)))

settled_some : (ledger : Ledger) (raw : Raw) (o : Option Message) → ((m : Message) → IsFollowed (state_of ledger) raw (Sequenced m)) →
    option_map (settled_in (state_of ledger) raw) o ≡ option_map (settled ledger raw) o
settled_some ledger raw None followed = refl
settled_some ledger raw (Some m) followed = ap Some (settled-state_of ledger raw m (followed m))

-- the message of an entry other than a submission
message-state_of : (ledger : Ledger) (answer : Answer) (raw : Raw) → IsAnswered ledger raw answer → ((m : Message) → IsFollowed (state_of ledger) raw (Sequenced m)) →
    message_in (state_of ledger) answer raw ≡ rules.message ledger raw
unfolding rules.message message_in state_of
message-state_of ledger answer raw is followed =
    ap (option_map (settled_in (state_of ledger) raw)) (answered_same ledger answer raw (seq ledger + 1) is)
    ∙ settled_some ledger raw (unsettled (seq ledger + 1) (scribe.answer (order ledger)) raw) followed

-- the message of a submission
submitted-state_of : (ledger : Ledger) (id : List ℕ) (submission : Submission) (moment : ℕ) →
    IsFollowed (state_of ledger) (Submit id submission moment) (Sequenced (submission_message (seq ledger + 1) id submission moment)) →
    Sequenced (settled_in (state_of ledger) (Submit id submission moment) (submission_message ((state_of ledger).sequence + 1) id submission moment))
    ≡ sequenced (rules.message ledger (Submit id submission moment))
unfolding rules.message unsettled state_of
submitted-state_of ledger id submission moment followed =
    ap Sequenced (settled-state_of ledger (Submit id submission moment) (submission_message (seq ledger + 1) id submission moment) followed)

nack-state_of : (ledger : Ledger) (submission : Submission) (rule : _) →
    Nacked (record { rule = rule; operation = Some submission; minimum = pos (state.minimum (state_of ledger)) }) ≡ Nacked (rules.nack ledger submission rule)
unfolding rules.nack
nack-state_of ledger submission rule = ap (λ (m : ℕ). Nacked (record { rule = rule; operation = Some submission; minimum = pos m })) (minimum-state_of ledger)

some_rowed : (o : Option Client) → is_some (option_map rowed o) ≡ is_some o
some_rowed None = refl
some_rowed (Some c) = refl

-- a client has a row exactly where it is joined
pub joined-state_of : (ledger : Ledger) (c : List ℕ) → is_some (get (state_of ledger).rows c) ≡ is_joined ledger c
joined-state_of ledger c = ap is_some (get-state_of ledger c) ∙ some_rowed (client ledger c) ∙ sym (is_joined-client ledger c)

-- what is said of a joined client, part by part
record HasParts (ledger : Ledger) (c : List ℕ) (said : Client) : Type 0 where
  joined : is_joined ledger c ≡ true
  last : last_number ledger c ≡ said.last
  nacked : is_nacked ledger c ≡ said.nacked
  scopes : scopes ledger c ≡ said.scopes

parts_of : (ledger : Ledger) (c : List ℕ) (said : Client) (held : Option Scopes) → past.membership (past_of ledger) c ≡ held → client ledger c ≡ Some said → HasParts ledger c said
unfolding is_joined last_number is_nacked scopes client past.client
parts_of ledger c said None h is = absurd (none-some said (rw h at is))
parts_of ledger c said (Some held) h is =
    let same = same_Some _ said (rw h at is) in
    record {
      joined = rw h refl;
      last = ap (λ (r : Client). r.last) same;
      nacked = ap (λ (r : Client). r.nacked) same;
      scopes = rw h (ap (λ (r : Client). r.scopes) same);
    }

-- the rows with another reference of a client have the least reference that would be said then
lifted-state_of : (ledger : Ledger) (c : List ℕ) (submission : Submission) (said : Client) → client ledger c ≡ Some said →
    state.lifted (state_of ledger) c submission ≡ rules.lifted ledger c submission
unfolding state_of
lifted-state_of ledger c submission said is =
    let taken : ℕ = read_as (seq ledger) submission.reference in
    let other : Client = record said { reference = taken } in
    let referring : Row → Row = λ row. record row { reference = taken } in
    let there : get (state_of ledger).rows c ≡ Some (rowed said) = get-state_of ledger c ∙ ap (option_map rowed) is in
    let told : (d : List ℕ) → get (change_row c referring (state_of ledger).rows) d ≡ option_map rowed (cond (bytes_eq c d) (Some other) (client ledger d)) =
    λ d. get_changed (state_of ledger).rows c d referring (Some (rowed said)) there ∙ chosen (bytes_eq c d) (Some other) (client ledger d) (get (state_of ledger).rows d) (get-state_of ledger d) in
    least-unique (λ d. cond (bytes_eq c d) (Some other) (client ledger d)) (seq ledger) _ _
    (rows_least (change_row c referring (state_of ledger).rows) (λ d. cond (bytes_eq c d) (Some other) (client ledger d)) (seq ledger) told)
    (lifted-least ledger c submission other refl)

-- a noop of a joined client is absorbed in the state of a ledger where the rules absorb it
absorbed-state_of : (ledger : Ledger) (c : List ℕ) (submission : Submission) (said : Client) → client ledger c ≡ Some said →
    is_absorbed (state_of ledger) c submission ≡ rules.is_absorbed ledger c submission
absorbed-state_of ledger c submission said is =
    rw (lifted-state_of ledger c submission said is, last_minimum-state_of ledger)

module _ (ledger : Ledger) (c : List ℕ) (submission : Submission) (moment : ℕ) where
  -- the two tables, test by test
  abbrev taken : Verdict
  taken = Sequenced (settled_in (state_of ledger) (Submit c submission moment) (submission_message ((state_of ledger).sequence + 1) c submission moment))

  same_case : (a b n l h x : Bool) → (n ≡ false → taken ≡ sequenced (rules.message ledger (Submit c submission moment))) →
      is_absorbed (state_of ledger) c submission ≡ rules.is_absorbed ledger c submission →
      verdict_of (state_of ledger) c submission moment
      (first_fit ((a, Duplicate) ∷ (b, Refused Gap) ∷ (n, Refused Nonexistent) ∷ (l, Refused Below) ∷ (h, Refused Ahead) ∷ (x, Refused Scope) ∷ []) Admitted)
      ≡ first_case
      ((a, Dropped)
      ∷ (b, Nacked (rules.nack ledger submission Gap))
      ∷ (n, Nacked (rules.nack ledger submission Nonexistent))
      ∷ (l, Nacked (rules.nack ledger submission Below))
      ∷ (h, Nacked (rules.nack ledger submission Ahead))
      ∷ (x, Nacked (rules.nack ledger submission Scope))
      ∷ (rules.is_absorbed ledger c submission, Absorbed)
      ∷ [])
      (sequenced (rules.message ledger (Submit c submission moment)))
  same_case true b n l h x message absorbs = refl
  same_case false true n l h x message absorbs = nack-state_of ledger submission Gap
  same_case false false true l h x message absorbs = nack-state_of ledger submission Nonexistent
  same_case false false false true h x message absorbs = nack-state_of ledger submission Below
  same_case false false false false true x message absorbs = nack-state_of ledger submission Ahead
  same_case false false false false false true message absorbs = nack-state_of ledger submission Scope
  same_case false false false false false false message absorbs =
      ap (λ b. cond b Absorbed taken) absorbs ∙ ap (λ v. cond (rules.is_absorbed ledger c submission) Absorbed v) (message refl)

  by_table : (said : Client) → client ledger c ≡ Some said → HasParts ledger c said →
      verdict_of (state_of ledger) c submission moment (outcome_by (seq ledger) (rules.minimum ledger) (rowed said) submission) ≡ rules.submission_verdict ledger c submission moment
  unfolding outcome_by rules.submission_verdict
  by_table said is parts =
      rw (parts.joined, parts.last, parts.nacked, parts.scopes)
      (same_case _ _ said.nacked _ _ _ (λ in_order.
      submitted-state_of ledger c submission moment (λ row there.
      ap (λ (r : Row). r.nacked) (same_Some _ _ (sym there ∙ get-state_of ledger c ∙ ap (option_map rowed) is)) ∙ in_order))
      (absorbed-state_of ledger c submission said is))

  of_joined : (said : Client) → client ledger c ≡ Some said →
      verdict_of (state_of ledger) c submission moment (outcome (state_of ledger) c submission) ≡ rules.submission_verdict ledger c submission moment
  of_joined said is =
      ap (λ o. verdict_of (state_of ledger) c submission moment (outcome_at (state_of ledger) o submission)) (get-state_of ledger c ∙ ap (option_map rowed) is)
      ∙ ap (λ m. verdict_of (state_of ledger) c submission moment (outcome_by (state_of ledger).sequence m (rowed said) submission)) (minimum-state_of ledger)
      ∙ ap (λ n. verdict_of (state_of ledger) c submission moment (outcome_by n (rules.minimum ledger) (rowed said) submission)) (sequence-state_of ledger)
      ∙ by_table said is (parts_of ledger c said (past.membership (past_of ledger) c) refl is)

  of_absent : client ledger c ≡ None →
      verdict_of (state_of ledger) c submission moment (outcome (state_of ledger) c submission) ≡ rules.submission_verdict ledger c submission moment
  unfolding rules.submission_verdict
  of_absent is =
      let absent : is_joined ledger c ≡ false = is_joined-client ledger c ∙ ap is_some is in
      ap (λ o. verdict_of (state_of ledger) c submission moment (outcome_at (state_of ledger) o submission)) (get-state_of ledger c ∙ ap (option_map rowed) is)
      ∙ rw absent (nack-state_of ledger submission Nonexistent)

  submission-state_of : verdict_of (state_of ledger) c submission moment (outcome (state_of ledger) c submission) ≡ rules.submission_verdict ledger c submission moment
  submission-state_of =
      elim (client ledger c) as (λ o. client ledger c ≡ o → verdict_of (state_of ledger) c submission moment (outcome (state_of ledger) c submission) ≡ rules.submission_verdict ledger c submission moment) [
        | None ↦ λ is. of_absent is
        | Some said ↦ λ is. of_joined said is
      ] refl

-- the verdict in the state of a ledger is that of the rules
pub verdict-state_of : (ledger : Ledger) (answer : Answer) (raw : Raw) → IsAnswered ledger raw answer → verdict_in (state_of ledger) answer raw ≡ rules.verdict ledger raw
unfolding verdict_in rules.verdict
verdict-state_of ledger answer (Join id scopes detail moment) is =
    rw (joined-state_of ledger id, message-state_of ledger answer (Join id scopes detail moment) tt (λ _. tt))
verdict-state_of ledger answer (Leave id moment) is =
    rw (joined-state_of ledger id, message-state_of ledger answer (Leave id moment) tt (λ _. tt))
verdict-state_of ledger answer (Submit id submission moment) is = submission-state_of ledger id submission moment
verdict-state_of ledger answer (Report summary found moment) is =
    ap sequenced (message-state_of ledger answer (Report summary found moment) is (λ _. tt))

prepared-verdict : (s : State) (answer : Answer) (raw : Raw) → (prepared s answer raw).verdict ≡ verdict_in s answer raw
unfolding prepared
prepared-verdict s answer raw = refl

-- the verdict of what was prepared in a state that stands for a ledger
pub verdict_of_prepared : (ready : Prepared) (s : State) (answer : Answer) (raw : Raw) (ledger : Ledger) → ready ≡ prepared s answer raw → IsAnswered ledger raw answer →
    StandsFor s ledger → ready.verdict ≡ rules.verdict ledger raw
verdict_of_prepared ready s answer raw ledger is answered stands =
    ap (λ (r : Prepared). r.verdict) is ∙ prepared-verdict s answer raw ∙ ap (λ t. verdict_in t answer raw) stands.is ∙ verdict-state_of ledger answer raw answered

pub verdict_of_ready : (result : Result Prepared NoMemory) (s t : State) (answer : Answer) (raw other : Raw) (ledger : Ledger) → IfOk result (λ ready. ready ≡ prepared s answer raw) →
    s ≡ t → other ≡ raw → StandsFor t ledger → IsAnswered ledger other answer → IfOk result (λ ready. ready.verdict ≡ rules.verdict ledger other)
verdict_of_ready (Ok ready) s t answer raw other ledger is same entry stands answered =
    verdict_of_prepared ready t answer other ledger (is ∙ ap (λ u. prepared u answer raw) same ∙ ap (prepared t answer) (sym entry)) answered stands
verdict_of_ready (Err fault) s t answer raw other ledger is same entry stands answered = tt

-- ---- what it stands for

pub number_of : (s : State) (ledger : Ledger) → StandsFor s ledger → s.sequence ≡ seq ledger
number_of s ledger stands = ap (λ (t : State). t.sequence) stands.is ∙ sequence-state_of ledger

pub minimum_of : (s : State) (ledger : Ledger) → StandsFor s ledger → state.minimum s ≡ rules.minimum ledger
minimum_of s ledger stands = ap state.minimum stands.is ∙ minimum-state_of ledger

pub start-stands : StandsFor start []
unfolding state_of seq order joined last_minimum past_of past.joined past.ever_joined
start-stands = record { is = refl }
