-- The text of a state in the form is read back.
use Rattle.std.proofs.Common.{◌≡◌, ℕ, zero, suc, ◌/◌, ◌%◌, ◌<◌, ◌≤◌, arith, nat_le, Bool, true, false, ◌&&◌, List, [], ◌∷◌, ◌++◌, length, take, drop, map, Option, Some, Ok, All, IsUtf8, le-leb, refl, ap, ◌∙◌}
use Rattle.std.specs.Prelude.{slice_index}
use Rattle.std.specs.List.{list_all}
use Rattle.std.specs.Result.{result_ok}
use Rattle.std.specs.Ordering.{nat_cmp, is_lt}
use Rattle.std.specs.FinMap.{entries, values, from_entries, is_sorted, entries_sorted}
use Rattle.std.specs.FinMap.Entries.{below_all}
use Rattle.std.proofs.lemmas.Bool.{and_parts, cases_lt}
use Rattle.std.proofs.Common.{inl, inr}
use Rattle.std.proofs.lemmas.Str.{is_utf8-from_IsUtf8}
use Rattle.hex.specs.Hex.{IsBytes, encode_with, encode_lower, lower_digits}
use Rattle.hex.proofs.HexLemmas.{decode_sized-encode_lower}
use Rattle.fluid_table.specs.Table.{byte_order}
use Rattle.fluid_table.proofs.Places.{is_true}
use Rattle.fluid_json.specs.Tree.{Tree, list, trees, members, depth, members_depth, IsCanonical}
use Rattle.fluid_json.specs.Printed.{printed}
use Rattle.fluid_json.specs.Spelled.{answer_stored}
use Rattle.fluid_json.proofs.ReadBack.{answers_itself}
use Rattle.fluid_types.specs.Forms.{largest}
use Rattle.fluid_types.specs.Blobs.{blobs_of, blob_text, blob_tree, list_tree, member_tree, proposal_tree, value_tree}
use Rattle.fluid_types.specs.Texts.{name_of}
use Rattle.fluid_types.specs.declared.fault.Field.{Field}
use Rattle.fluid_types.specs.declared.quorum.QuorumBlob.{QuorumBlob}
use Rattle.fluid_types.specs.declared.quorum.QuorumBlob.TheVariants as blob
use Rattle.fluid_types.specs.Printed.{Row as Pair, message_tree, scopes_tree}
use Rattle.fluid_types.specs.Quorum.{Quorum}
use Rattle.fluid_types.specs.declared.messages.Kind.{Kind}
use Rattle.fluid_types.specs.declared.messages.Message.{Message}
use Rattle.fluid_tree.specs.Ids.{is_lower_digit, id_read}
use Rattle.fluid_tree.specs.declared.id.SummaryRef.{SummaryRef}
use Rattle.fluid_clients.specs.declared.table.Row.{Row}
use Rattle.fluid_clients.specs.Table.{Rows}
use Rattle.fluid_codec.proofs.ReadBack.{message_is}
use Rattle.fluid_codec.specs.Laws.{IsMessage}
use Rattle.fluid_quorum.specs.Node.{tree_of, node_of}
use Rattle.fluid_quorum.specs.Reading as blobs
use Rattle.fluid_types.specs.Words.{blob_word}
use Rattle.fluid_checkpoint.specs.declared.state.State.{State}
use Rattle.fluid_checkpoint.specs.declared.state.Form.{Form}
use Rattle.fluid_checkpoint.specs.declared.state.Form.TheVariants as form
use Rattle.fluid_checkpoint.specs.declared.version.Version.TheVariants.{One, Two}
use Rattle.fluid_checkpoint.specs.Heard.{Moments, unheard, with_moments}
use Rattle.fluid_checkpoint.specs.Text.{ack_tree, client_tree, moment_tree, change_tree, base_tree, state_members, state_tree, state_printed}
use Rattle.fluid_checkpoint.specs.Reading.{at, each, fields_of, trimmed, each_trimmed, own, ack, client, scopes, moment, change, message, base, messages, clients, moments, minima, ◌>>=◌, state_in, form_in, object_of, answer}
use Rattle.fluid_checkpoint.specs.Laws.{IsAck, IsClient, IsMoment, IsChange, IsBase, AreMessages, IsInForm, IsReadBack, FirstIsRead}
use Rattle.fluid_checkpoint.proofs.Canonical.{first, second}

-- ---- digits

abbrev all_below : (ℕ → Bool) → ℕ → Bool
all_below p zero = true
all_below p (suc n) = p n && all_below p n

below : (p : ℕ → Bool) (n v : ℕ) → all_below p n ≡ true → v < n → p v ≡ true
below p zero v h lt = absurd (omega arith)
below p (suc n) v h lt =
    let parts = and_parts (p n) (all_below p n) h in
    elim (cases_lt v n) [
      | inl low ↦ below p n v parts.1 low
      | inr top ↦
          let e : v ≡ n = omega arith in
          rw e parts.0
    ]

digit : (v : ℕ) → v < 16 → is_lower_digit (slice_index lower_digits v) ≡ true
digit v h = below (λ d. is_lower_digit (slice_index lower_digits d)) 16 v refl h

all_digits : (bytes : List ℕ) → IsBytes bytes → list_all is_lower_digit (encode_lower bytes) ≡ true
unfolding encode_with
all_digits [] all = refl
all_digits (x ∷ xs) all =
    let fits : x < 256 = all 0 in
    rw (digit (x / 16) (omega arith), digit (x % 16) (omega arith)) (all_digits xs (λ k. all (suc k)))

id_back : (id : List ℕ) → IsBytes id → length id ≡ 20 → id_read (encode_lower id) ≡ Some id
unfolding id_read
id_back id bytes size = rw (all_digits id bytes) (ap result_ok (decode_sized-encode_lower id 20 size bytes))

-- ---- items

count_back : (n : ℕ) → n ≤ largest → nat_le n largest ≡ true
count_back n h = le-leb n largest h

ack_back : (a : SummaryRef) → IsAck a → ack (ack_tree a) ≡ Some a
unfolding ack
ack_back a h = rw (id_back a.handle h.bytes h.size, count_back a.number h.number) refl

scopes_held : (a b c : Bool) → scopes (scopes_tree (record { read = a; write = b; summary = c })) ≡ Some (record { read = a; write = b; summary = c })
scopes_held true true true = refl
scopes_held true true false = refl
scopes_held true false true = refl
scopes_held true false false = refl
scopes_held false true true = refl
scopes_held false true false = refl
scopes_held false false true = refl
scopes_held false false false = refl

client_back : (c : List ℕ × Row) → IsClient c → client (client_tree c) ≡ Some (c.0, unheard c.1)
unfolding client
client_back (id, row) h =
    rw (h.id, count_back row.last h.last, count_back row.reference h.reference, scopes_held row.scopes.read row.scopes.write row.scopes.summary) refl

moment_back : (m : List ℕ × ℕ) → IsMoment m → moment (moment_tree m) ≡ Some m
unfolding moment
moment_back (id, at) h = rw (h.id, count_back at h.moment) refl

change_back : (c : ℕ × ℕ) → IsChange c → change (change_tree c) ≡ Some c
change_back (number, minimum) h = rw (count_back number h.number, count_back minimum h.minimum) refl

message_back : (is_such : Kind → Bool) (m : Message) → IsMessage m → is_such m.kind ≡ true → message is_such (message_tree m) ≡ Some m
unfolding message
message_back is_such m h kind = rw (message_is m h, kind) refl

-- ---- lists

each_back : {A B : Type 0} (form : Tree → Option B) (tree : A → Tree) (f : A → B) (P : A → Type 0) (xs : List A) → ((a : A) → P a → form (tree a) ≡ Some (f a)) → All P xs →
    each form (trees (map tree xs)) ≡ Some (map f xs)
each_back form tree f P [] one all = refl
each_back form tree f P (x ∷ xs) one all =
    rw (one x (all 0 x (omega arith)), each_back form tree f P xs one (λ k d lt. all (suc k) d (omega (arith, lt)))) refl

itself : {A : Type 0} (xs : List A) → map (λ x. x) xs ≡ xs
itself [] = refl
itself (x ∷ xs) = ap (λ rest. x ∷ rest) (itself xs)

same_back : {A : Type 0} (form : Tree → Option A) (tree : A → Tree) (P : A → Type 0) (xs : List A) → ((a : A) → P a → form (tree a) ≡ Some a) → All P xs →
    each form (trees (map tree xs)) ≡ Some xs
same_back form tree P xs one all = each_back form tree (λ x. x) P xs one all ∙ ap Some (itself xs)

messages_back : (is_such : Kind → Bool) (ms : List Message) → AreMessages is_such ms → messages is_such (list_tree message_tree ms) ≡ Some ms
unfolding messages
messages_back is_such ms h =
    let all : All (λ m. IsMessage m × (is_such m.kind ≡ true)) ms = λ k d lt. (h.each k d lt, h.kinds k d lt) in
    let read = same_back (message is_such) message_tree (λ m. IsMessage m × (is_such m.kind ≡ true)) ms (λ m both. message_back is_such m both.0 both.1) all in
    rw (read, h.numbered) refl

-- the order of ids doesn't depend on the rows
below_mapped : (k : List ℕ) (es : List (List ℕ × Row)) → below_all byte_order k (map (λ e. (e.0, unheard e.1)) es) ≡ below_all byte_order k es
below_mapped k [] = refl
below_mapped k (e ∷ es) = ap (λ b. is_lt (byte_order k e.0) && b) (below_mapped k es)

sorted_mapped : (es : List (List ℕ × Row)) → is_sorted byte_order (map (λ e. (e.0, unheard e.1)) es) ≡ is_sorted byte_order es
sorted_mapped [] = refl
sorted_mapped (e ∷ es) = rw (below_mapped e.0 es, sorted_mapped es) refl

clients_back : (rows : Rows) → All IsClient (entries rows) → clients (list_tree client_tree (entries rows)) ≡ Some (map (λ e. (e.0, unheard e.1)) (entries rows))
unfolding clients
clients_back rows h =
    rw (each_back client client_tree (λ e. (e.0, unheard e.1)) IsClient (entries rows) client_back h, sorted_mapped (entries rows) ∙ is_true _ (entries_sorted rows)) refl

moments_back : (ms : Moments) → All IsMoment ms → is_sorted byte_order ms ≡ true → moments (list_tree moment_tree ms) ≡ Some ms
unfolding moments
moments_back ms h sorted = rw (same_back moment moment_tree IsMoment ms moment_back h, sorted) refl

minima_back : (cs : List (ℕ × ℕ)) → All IsChange cs → is_sorted nat_cmp cs ≡ true → minima (list_tree change_tree cs) ≡ Some cs
unfolding minima
minima_back cs h sorted = rw (same_back change change_tree IsChange cs change_back h, sorted) refl

-- a blob's own value has no other members
own_items : {A : Type 0} (fields : List Field) (tree : A → Tree) (xs : List A) → ((a : A) → trimmed fields (tree a) ≡ tree a) → each_trimmed fields (trees (map tree xs)) ≡ trees (map tree xs)
own_items fields tree [] one = refl
own_items fields tree (x ∷ xs) one = rw (one x, own_items fields tree xs one) refl

own_value : (q : Quorum) (b : QuorumBlob) → own b (blob_tree q b) ≡ blob_tree q b
unfolding name_of
own_value q blob.Attributes = refl
own_value q blob.Members = ap list (own_items (fields_of blob.Members) member_tree (values q.members) (λ m. refl))
own_value q blob.Proposals = ap list (own_items (fields_of blob.Proposals) proposal_tree q.pending (λ p. refl))
own_value q blob.Values = ap list (own_items (fields_of blob.Values) value_tree (entries q.values) (λ v. refl))

-- the quorum that these values say
abbrev said_by : (attributes members proposals values : Tree) → Option Quorum
said_by attributes members proposals values =
    result_ok
    (blobs.answer
    (tree_of
    ((blob_word blob.Attributes, printed attributes)
    ∷ (blob_word blob.Members, printed members)
    ∷ (blob_word blob.Proposals, printed proposals)
    ∷ (blob_word blob.Values, printed values)
    ∷ [])))

base_back : (q : Quorum) → IsBase q → base (base_tree q) ≡ Some q
unfolding base blob_text node_of blobs_of
base_back q h =
    (λ i. said_by (own_value q blob.Attributes i) (own_value q blob.Members i) (own_value q blob.Proposals i) (own_value q blob.Values i)) ∙ ap result_ok h.read_back

-- ---- the state

heard_back : (s : State) → IsInForm s → with_moments (from_entries (map (λ e. (e.0, unheard e.1)) (entries s.sequencer.rows))) s.heard ≡ s.sequencer.rows
heard_back s h = h.heard

pub second_back : (s : State) → IsInForm s → state_in Two (state_tree Two s) ≡ Ok s
unfolding state_in state_members
second_back s h =
    rw (
      same_back ack ack_tree IsAck s.scribe.acks ack_back h.acks,
      base_back s.scribe.base h.base,
      messages_back _ s.scribe.behind h.behind,
      clients_back s.sequencer.rows h.clients,
      count_back s.counted h.counted,
      count_back s.entered h.entered,
      moments_back s.heard h.moments h.ids,
      minima_back s.scribe.minima h.minima h.changes,
      count_back s.sequencer.minimum h.minimum,
      messages_back _ s.scribe.pending h.pending,
      count_back s.sequencer.sequence h.sequence,
      heard_back s h,
    )
    refl

first_back : (s : State) (h : IsInForm s) → state_in One (state_tree One s) ≡ Ok (record s {
  heard = [];
  sequencer = record { sequence = s.sequencer.sequence; minimum = s.sequencer.minimum; rows = with_moments (from_entries (map (λ e. (e.0, unheard e.1)) (entries s.sequencer.rows))) [] };
})
unfolding state_in state_members
first_back s h =
    rw (
      same_back ack ack_tree IsAck s.scribe.acks ack_back h.acks,
      base_back s.scribe.base h.base,
      messages_back _ s.scribe.behind h.behind,
      clients_back s.sequencer.rows h.clients,
      count_back s.counted h.counted,
      count_back s.entered h.entered,
      minima_back s.scribe.minima h.minima h.changes,
      count_back s.sequencer.minimum h.minimum,
      messages_back _ s.scribe.pending h.pending,
      count_back s.sequencer.sequence h.sequence,
    )
    refl

-- ---- the texts

second_said : (s : State) → IsInForm s → form_in (state_tree Two s) ≡ Ok (form.Two s)
unfolding state_members
second_said s h = ap (λ r. r >>= λ state. Ok (form.Two state)) (second_back s h)

first_said : (s : State) → IsInForm s → form_in (state_tree One s) ≡ Ok (form.One s.entered)
unfolding state_members
first_said s h = ap (λ r. r >>= λ state. Ok (form.One state.entered)) (first_back s h)

of_tree : (t : Tree) (f : Form) → IsCanonical t → depth t ≤ 120 → IsUtf8 (printed t) → object_of t ≡ Ok t → form_in t ≡ Ok f → answer (printed t) ≡ Ok f
unfolding answer
of_tree t f canonical shallow utf8 object said =
    let spelled : answer_stored (printed t) ≡ Ok t = answers_itself 121 t canonical (omega (arith, shallow)) (omega (arith, shallow)) in
    rw (is_utf8-from_IsUtf8 (printed t) utf8, spelled, object) said

pub read_back : IsReadBack
unfolding state_printed
read_back s h written = of_tree (state_tree Two s) (form.Two s) (second s h) h.shallow written.utf8 refl (second_said s h)

-- without some of its members a value is no deeper
deeper : (before middle after : List Pair) → members_depth (members (before ++ after)) ≤ members_depth (members (before ++ (middle ++ after)))
deeper [] [] after = omega arith
deeper [] (m ∷ middle) after = omega (arith, deeper [] middle after)
deeper (b ∷ before) middle after = omega (arith, deeper before middle after)

less_deep : (s : State) → depth (state_tree One s) ≤ depth (state_tree Two s)
unfolding state_members
less_deep s =
    let all = state_members Two s in
    let members_less : members_depth (members (state_members One s)) ≤ members_depth (members (state_members Two s)) = deeper (take 6 all) (take 1 (drop 6 all)) (drop 7 all) in
    omega (arith, members_less)

pub first_read : FirstIsRead
first_read s h utf8 = of_tree (state_tree One s) (form.One s.entered) (first s h) (omega (arith, less_deep s, h.shallow)) utf8 refl (first_said s h)
