-- An event is read exactly from the values that spell it.
use Rattle.std.proofs.Common.{◌≡◌, ℕ, List, [], ◌∷◌, ◌++◌, Bool, true, false, cond, Option, Some, None, Ok, IsSomeAnd, MatchOption, find, bytes_eq, inl, inr, refl, ap, sym, ◌∙◌, subst}
use Rattle.std.specs.Prelude.{option_and_then}
use Rattle.std.specs.Option.{ok_or}
use Rattle.std.proofs.lemmas.Slice.Eq.{bytes_eq-Decides}
use Rattle.hex.specs.Hex.{encode_lower, decode_of}
use Rattle.fluid_json.specs.Tree as json
use Rattle.fluid_json.specs.Tree.{Tree, text, list, Trees, no_trees, tree, as_text, as_trees}
use Rattle.fluid_types.specs.Texts.{name_of}
use Rattle.fluid_types.specs.Forms.{Read, ◌>>=◌, Form, a_whole, a_text, a_list, an_object, present, required, optional, given, any, name, one_of}
use Rattle.fluid_types.specs.Records.{held_scopes, submission}
use Rattle.fluid_types.specs.Spellings.{Has, SpellsName, SpellsCount, SpellsScopes, SpellsSubmission}
use Rattle.fluid_types.specs.declared.fault.Field.{Field}
use Rattle.fluid_types.specs.declared.fault.Field.TheVariants as field
use Rattle.fluid_types.specs.declared.fault.What.TheVariants.{NotAllowed}
use Rattle.fluid_types.specs.declared.fault.CodecFault.TheVariants.{UnknownEvent, BadField}
use Rattle.fluid_types.specs.declared.entries.Submission.{Submission}
use Rattle.fluid_codec.specs.declared.names.EventName.{EventName}
use Rattle.fluid_codec.specs.declared.names.EventName.TheVariants as heard
use Rattle.fluid_codec.specs.declared.names.Mode.{Mode}
use Rattle.fluid_codec.specs.declared.names.Mode.TheVariants as mode
use Rattle.fluid_codec.specs.declared.events.Asked.{Asked}
use Rattle.fluid_codec.specs.declared.events.Asked.TheVariants.{Latest, Handle}
use Rattle.fluid_codec.specs.declared.events.Event.{Event}
use Rattle.fluid_codec.specs.declared.events.Event.TheVariants.{Connect, SubmitOp, GetDeltas, GetSummary, GetObject, PutObject}
use Rattle.fluid_codec.specs.Laws.{EventsAreSpelled}
use Rattle.fluid_codec.specs.Items.{item, argument}
use Rattle.fluid_codec.specs.EventWords.{event_word, event_names, mode_word, modes, latest}
use Rattle.fluid_codec.specs.Events.{lower_hex, an_id, hex_bytes, asked, each, alone, batch_of, batch, batches, writes, connect_document, submit_op, get_deltas, get_summary, get_object, put_object, event_of, event_name, event}
use Rattle.fluid_codec.specs.EventSpellings.{HasItem, IsNamed, SpellsWhole, SpellsId, SpellsBytes, SpellsAsked, SpellEach, SpellsAlone, SpellsPart, joined, SpellsBatches, SpellsConnection, SpellsEvent}
use Rattle.fluid_codec.proofs.Digits.{some_ok, digits_of, of_digits, id_digits, digits_id}
use Rattle.fluid_codec.proofs.Steps.{bind_ok, ok_or-ok, Reads, a_text-reads, a_whole-ok, a_list-ok, name-reads, one_of_spelled, required_spelled, required_read, any_member, member_any, find-passes}
use Rattle.fluid_codec.proofs.Spelled.{scopes-reads, submission-reads, an_object-ok, an_object_read, spelled_exactly}

-- ---- arguments

argument_spelled : {A : Type 0} (form : Form A) (Spells : A → Tree → Type 0) → Reads form Spells → (t : Tree) (n : ℕ) (f : Field) (a : A) → argument t n f form ≡ Ok a → HasItem t n (Spells a)
argument_spelled form Spells reads t n f a h = of (item n t) h
  where
    of : (o : Option Tree) → (present f o >>= form f) ≡ Ok a → IsSomeAnd o (Spells a)
    of None h = cc
    of (Some v) h = reads.spelled f v a h

argument_read : {A : Type 0} (form : Form A) (Spells : A → Tree → Type 0) → Reads form Spells → (t : Tree) (n : ℕ) (f : Field) (a : A) → HasItem t n (Spells a) → argument t n f form ≡ Ok a
argument_read form Spells reads t n f a h = of (item n t) h
  where
    of : (o : Option Tree) → IsSomeAnd o (Spells a) → (present f o >>= form f) ≡ Ok a
    of None h = absurd h
    of (Some v) h = reads.read f v a h

whole-reads : Reads a_whole SpellsWhole
whole-reads = record { spelled = a_whole-ok; read = λ f t n h. rw h refl }

-- ---- hexadecimal texts

id_spelled : (f : Field) (t : Tree) (id : List ℕ) → an_id f t ≡ Ok id → SpellsId id t
id_spelled f t id h =
    let step = bind_ok (a_text f t) _ _ h in
    let digits = id_digits 20 step.0 id (ok_or-ok _ _ _ step.2) in
    record { spelled = a_text-reads.spelled f t step.0 step.1 ∙ ap text digits.0; bytes = digits.1; size = digits.2 }

id_read : (f : Field) (t : Tree) (id : List ℕ) → SpellsId id t → an_id f t ≡ Ok id
id_read f t id h = rw (h.spelled, digits_id 20 id h.bytes h.size) refl

id-reads : Reads an_id SpellsId
id-reads = record { spelled = id_spelled; read = id_read }

bytes_spelled : (f : Field) (t : Tree) (bytes : List ℕ) → hex_bytes f t ≡ Ok bytes → SpellsBytes bytes t
bytes_spelled f t bytes h =
    let step = bind_ok (a_text f t) _ _ h in
    let digits = digits_of step.0 bytes (some_ok (decode_of step.0) bytes (ok_or-ok _ _ _ step.2)) in
    record { digits = step.0; spelled = a_text-reads.spelled f t step.0 step.1; in_lower = digits.0; all_bytes = digits.1 }

bytes_read : (f : Field) (t : Tree) (bytes : List ℕ) → SpellsBytes bytes t → hex_bytes f t ≡ Ok bytes
bytes_read f t bytes h = rw (h.spelled, of_digits h.digits bytes h.all_bytes h.in_lower) refl

bytes-reads : Reads hex_bytes SpellsBytes
bytes-reads = record { spelled = bytes_spelled; read = bytes_read }

asked_spelled : (f : Field) (t : Tree) (a : Asked) → asked f t ≡ Ok a → SpellsAsked a t
asked_spelled f t a h =
    let step = bind_ok (a_text f t) _ _ h in
    by_word step.0 (bytes_eq step.0 latest) refl (a_text-reads.spelled f t step.0 step.1) step.2
  where
    by_word : (s : List ℕ) (b : Bool) → bytes_eq s latest ≡ b → t ≡ text s
        → cond b (Ok Latest) (ok_or (lower_hex 20 s) (BadField f NotAllowed) >>= λ id. Ok (Handle id)) ≡ Ok a → SpellsAsked a t
    by_word s true e is h =
        let same : Latest ≡ a = cc in
        subst (λ b. SpellsAsked b t) same (is ∙ ap text ((bytes_eq-Decides s latest).0 e))
    by_word s false e is h =
        let step = bind_ok (ok_or (lower_hex 20 s) (BadField f NotAllowed)) _ _ h in
        let same : Handle step.0 ≡ a = cc in
        let digits = id_digits 20 s step.0 (ok_or-ok _ _ _ step.1) in
        let id : SpellsId step.0 t = record { spelled = is ∙ ap text digits.0; bytes = digits.1; size = digits.2 } in
        subst (λ b. SpellsAsked b t) same id

-- the word is no text of digits
latest_is_no_id : (s id : List ℕ) → lower_hex 20 s ≡ Some id → (b : Bool) → bytes_eq s latest ≡ b → b ≡ false
latest_is_no_id s id h false e = refl
latest_is_no_id s id h true e =
    let is : s ≡ latest = (bytes_eq-Decides s latest).0 e in
    let never : lower_hex 20 latest ≡ Some id = subst (λ u. lower_hex 20 u ≡ Some id) is h in
    cc

asked_read : (f : Field) (t : Tree) (a : Asked) → SpellsAsked a t → asked f t ≡ Ok a
asked_read f t Latest h = rw h refl
asked_read f t (Handle id) h =
    let digits = digits_id 20 id h.bytes h.size in
    rw (h.spelled, latest_is_no_id (encode_lower id) id digits (bytes_eq (encode_lower id) latest) refl, digits) refl

asked-reads : Reads asked SpellsAsked
asked-reads = record { spelled = asked_spelled; read = asked_read }

-- ---- submissions, alone or in lists

alone_spelled : (f : Field) (t : Tree) (part : List Submission) → alone f t ≡ Ok part → SpellsAlone part t
alone_spelled f t part h =
    let step = bind_ok (submission f t) _ _ h in
    let same : step.0 ∷ [] ≡ part = cc in
    record { one = step.0; part_is = sym same; spelled = submission-reads.spelled f t step.0 step.1 }

alone_read : (f : Field) (t : Tree) (part : List Submission) → SpellsAlone part t → alone f t ≡ Ok part
alone_read f t part h = rw (submission-reads.read f t h.one h.spelled) (ap Ok (sym h.part_is))

-- what is read of a list of items, each alone
list_spelled : (f : Field) (ts : Trees) (ss : List Submission) → each (alone f) ts ≡ Ok ss → SpellEach SpellsSubmission ss ts
unfolding each
list_spelled f no_trees ss h = let same : [] ≡ ss = cc in subst (λ us. SpellEach SpellsSubmission us no_trees) same tt
list_spelled f (tree t ts) ss h =
    let prefix = bind_ok (alone f t) _ _ h in
    let rest = bind_ok (each (alone f) ts) _ _ prefix.2 in
    let one = alone_spelled f t prefix.0 prefix.1 in
    let same : prefix.0 ++ rest.0 ≡ ss = cc in
    subst (λ us. SpellEach SpellsSubmission us (tree t ts)) (ap (λ p. p ++ rest.0) (sym one.part_is) ∙ same) (one.spelled, list_spelled f ts rest.0 rest.1)

list_read : (f : Field) (ts : Trees) (ss : List Submission) → SpellEach SpellsSubmission ss ts → each (alone f) ts ≡ Ok ss
unfolding each
list_read f no_trees [] h = refl
list_read f (tree t ts) [] h = absurd h
list_read f no_trees (s ∷ ss) h = absurd h
list_read f (tree t ts) (s ∷ ss) h = rw (submission-reads.read f t s h.0, list_read f ts ss h.1) refl

as_trees-some : (t : Tree) (ts : Trees) → as_trees t ≡ Some ts → t ≡ list ts
as_trees-some (list us) ts h = cc
as_trees-some t ts h = cc

part_spelled : (f : Field) (t : Tree) (part : List Submission) → batch f t ≡ Ok part → SpellsPart part t
part_spelled f t part h = of (as_trees t) refl h
  where
    of : (o : Option Trees) → as_trees t ≡ o → batch_of f t o ≡ Ok part → SpellsPart part t
    of None e h = inl (alone_spelled f t part h)
    of (Some ts) e h = inr (record { items = ts; spelled = as_trees-some t ts e; each = list_spelled f ts part h })

-- what has a member is no list
no_list : {A : Type 0} (Spells : A → Tree → Type 0) (g : Field) (t : Tree) (a : A) → Has t g Spells a → as_trees t ≡ None
no_list Spells g (list ts) a h = absurd h
no_list Spells g t a h = refl

part_read : (f : Field) (t : Tree) (part : List Submission) → SpellsPart part t → batch f t ≡ Ok part
part_read f t part (inl h) = rw (no_list (SpellsCount 0) field.ClientSequenceNumber t h.one.client_number h.spelled.its_client_number) (alone_read f t part h)
part_read f t part (inr h) = rw h.spelled (list_read f h.items part h.each)

record Parts (ss : List Submission) (ts : Trees) : Type 0 where
  pub parts : List (List Submission)
  pub each : SpellEach SpellsPart parts ts
  pub in_order : ss ≡ joined parts

parts_spelled : (f : Field) (ts : Trees) (ss : List Submission) → each (batch f) ts ≡ Ok ss → Parts ss ts
unfolding each
parts_spelled f no_trees ss h = let same : [] ≡ ss = cc in record { parts = []; each = tt; in_order = sym same }
parts_spelled f (tree t ts) ss h =
    let prefix = bind_ok (batch f t) _ _ h in
    let rest = bind_ok (each (batch f) ts) _ _ prefix.2 in
    let more = parts_spelled f ts rest.0 rest.1 in
    let same : prefix.0 ++ rest.0 ≡ ss = cc in
    record {
      parts = prefix.0 ∷ more.parts;
      each = (part_spelled f t prefix.0 prefix.1, more.each);
      in_order = sym same ∙ ap (λ r. prefix.0 ++ r) more.in_order;
    }

parts_read : (f : Field) (ts : Trees) (parts : List (List Submission)) → SpellEach SpellsPart parts ts → each (batch f) ts ≡ Ok (joined parts)
unfolding each
parts_read f no_trees [] h = refl
parts_read f (tree t ts) [] h = absurd h
parts_read f no_trees (p ∷ ps) h = absurd h
parts_read f (tree t ts) (p ∷ ps) h = rw (part_read f t p h.0, parts_read f ts ps h.1) refl

batches_spelled : (f : Field) (t : Tree) (ss : List Submission) → batches f t ≡ Ok ss → SpellsBatches ss t
batches_spelled f t ss h =
    let items = bind_ok (a_list f t) _ _ h in
    let parts = parts_spelled f items.0 ss items.2 in
    record { items = items.0; parts = parts.parts; spelled = a_list-ok f t items.0 items.1; each = parts.each; in_order = parts.in_order }

batches_read : (f : Field) (t : Tree) (ss : List Submission) → SpellsBatches ss t → batches f t ≡ Ok ss
batches_read f t ss h = rw h.spelled (parts_read f h.items h.parts h.each ∙ ap Ok (sym h.in_order))

batches-reads : Reads batches SpellsBatches
batches-reads = record { spelled = batches_spelled; read = batches_read }

-- ---- the name

event_found : (n : EventName) → find (λ b. bytes_eq (event_word n) (event_word b)) event_names ≡ Some n
event_found heard.ConnectDocument = refl
event_found heard.SubmitOp = refl
event_found heard.GetDeltas = refl
event_found heard.GetSummary = refl
event_found heard.GetObject = refl
event_found heard.PutObject = refl

named_spelled : (t : Tree) (n : EventName) → event_name t ≡ Ok n → IsNamed n t
named_spelled t n h = of_item (item 0 t) (ok_or-ok _ _ _ h)
  where
    of_text : (u : Tree) (o : Option (List ℕ)) → as_text u ≡ o → option_and_then (λ s. find (λ m. bytes_eq s (event_word m)) event_names) o ≡ Some n → u ≡ text (event_word n)
    of_text u None e h = cc
    of_text u (Some s) e h =
        let same : s ≡ event_word n = (bytes_eq-Decides s (event_word n)).0 (find-passes (λ m. bytes_eq s (event_word m)) event_names n h) in
        let is : u ≡ text s = a_text-reads.spelled field.Id u s (rw e refl) in
        is ∙ ap text same

    of_item : (o : Option Tree) → option_and_then (λ s. find (λ m. bytes_eq s (event_word m)) event_names) (option_and_then as_text o) ≡ Some n → IsSomeAnd o (λ u. u ≡ text (event_word n))
    of_item None h = cc
    of_item (Some u) h = of_text u (as_text u) refl h

named_read : (t : Tree) (n : EventName) → IsNamed n t → event_name t ≡ Ok n
named_read t n h = of (item 0 t) h
  where
    of : (o : Option Tree) → IsSomeAnd o (λ u. u ≡ text (event_word n)) → ok_or (option_and_then (λ s. find (λ m. bytes_eq s (event_word m)) event_names) (option_and_then as_text o)) UnknownEvent ≡ Ok n
    of None h = absurd h
    of (Some u) h = rw (h, event_found n) refl

-- ---- a connection

abbrev IsMode : Bool → Option Tree → Type 0
IsMode write value = MatchOption value (write ≡ true) (λ m. m ≡ text (mode_word (cond write mode.Write mode.Read)))

mode_of : (m : Mode) → m ≡ cond (writes (Some m)) mode.Write mode.Read
mode_of mode.Read = refl
mode_of mode.Write = refl

mode_spelled : (f : Field) (o : Option Tree) (m : Option Mode) → given f (one_of mode_word modes) o ≡ Ok m → IsMode (writes m) o
mode_spelled f None m h = let same : None ≡ m = cc in subst (λ k. IsMode (writes k) None) same refl
mode_spelled f (Some u) m h =
    let step = bind_ok (one_of mode_word modes f u) _ _ h in
    let same : Some step.0 ≡ m = cc in
    let is : u ≡ text (mode_word step.0) = one_of_spelled mode_word modes f u step.0 step.1 in
    subst (λ k. IsMode (writes k) (Some u)) same (is ∙ ap (λ k. text (mode_word k)) (mode_of step.0))

mode_read : (f : Field) (o : Option Tree) (write : Bool) → IsMode write o → (m : Option Mode) × (given f (one_of mode_word modes) o ≡ Ok m) × (writes m ≡ write)
mode_read f None write h = (None, refl, sym h)
mode_read f (Some u) true h = (Some mode.Write, rw h refl, refl)
mode_read f (Some u) false h = (Some mode.Read, rw h refl, refl)

-- what is read of an object that asks for a connection
abbrev connection : Tree → Read Event
connection o = do
  id ← required o field.Id name
  mode ← optional o field.Mode (one_of mode_word modes)
  scopes ← required o field.Scopes held_scopes
  Ok (Connect id (writes mode) scopes (any o field.Client))

-- an event with an object that asks for a connection
abbrev Connects : Tree → Event → Type 0
Connects o (Connect id write scopes client) = SpellsConnection id write scopes client o
Connects o e = ⊥

connection_spelled : (o : Tree) (e : Event) → connection o ≡ Ok e → Connects o e
connection_spelled o e h =
    let id = bind_ok (required o field.Id name) _ _ h in
    let mode = bind_ok (optional o field.Mode (one_of mode_word modes)) _ _ id.2 in
    let scopes = bind_ok (required o field.Scopes held_scopes) _ _ mode.2 in
    let same : Connect id.0 (writes mode.0) scopes.0 (any o field.Client) ≡ e = cc in
    let spelled : SpellsConnection id.0 (writes mode.0) scopes.0 (any o field.Client) o = record {
      its_client = any_member o field.Client _ refl;
      its_name = required_spelled name SpellsName name-reads o field.Id id.0 id.1;
      its_mode = mode_spelled field.Mode (json.find (name_of field.Mode) o) mode.0 mode.1;
      its_scopes = required_spelled held_scopes SpellsScopes scopes-reads o field.Scopes scopes.0 scopes.1;
    } in
    subst (λ d. Connects o d) same spelled

connection_read : (o : Tree) (e : Event) → Connects o e → connection o ≡ Ok e
connection_read o (Connect id write scopes client) h =
    let mode = mode_read field.Mode (json.find (name_of field.Mode) o) write h.its_mode in
    rw (
      required_read name SpellsName name-reads o field.Id id h.its_name,
      mode.1,
      mode.2,
      required_read held_scopes SpellsScopes scopes-reads o field.Scopes scopes h.its_scopes,
      member_any o field.Client client h.its_client,
    )
    refl
connection_read o e h = absurd h

-- ---- events

connect_spelled : (t : Tree) (e : Event) → IsNamed heard.ConnectDocument t → connect_document t ≡ Ok e → SpellsEvent e t
unfolding connect_document
connect_spelled t e word h = of (item 1 t) refl h
  where
    with_object : (u o : Tree) → an_object field.Connect u ≡ Ok o → connection o ≡ Ok e → Connects u e
    with_object u o is h = subst (λ v. Connects v e) (an_object-ok field.Connect u o is) (connection_spelled o e h)

    told : (e : Event) (u : Tree) → item 1 t ≡ Some u → Connects u e → SpellsEvent e t
    told (Connect id write scopes client) u is h = record { named = word; its_connection = rw is h }
    told e u is h = absurd h

    of : (o : Option Tree) → item 1 t ≡ o → ((present field.Connect o >>= an_object field.Connect) >>= connection) ≡ Ok e → SpellsEvent e t
    of None is h = cc
    of (Some u) is h = let step = bind_ok (an_object field.Connect u) connection _ h in told e u is (with_object u step.0 step.1 step.2)

submit_op_spelled : (t : Tree) (e : Event) → IsNamed heard.SubmitOp t → submit_op t ≡ Ok e → SpellsEvent e t
unfolding submit_op
submit_op_spelled t e word h =
    let id = bind_ok (argument t 1 field.ClientId name) _ _ h in
    let messages = bind_ok (argument t 2 field.Messages batches) _ _ id.2 in
    let same : SubmitOp id.0 messages.0 ≡ e = cc in
    subst (λ d. SpellsEvent d t) same (record {
      named = word;
      its_id = argument_spelled name SpellsName name-reads t 1 field.ClientId id.0 id.1;
      its_messages = argument_spelled batches SpellsBatches batches-reads t 2 field.Messages messages.0 messages.1;
    })

get_deltas_spelled : (t : Tree) (e : Event) → IsNamed heard.GetDeltas t → get_deltas t ≡ Ok e → SpellsEvent e t
unfolding get_deltas
get_deltas_spelled t e word h =
    let from = bind_ok (argument t 1 field.From a_whole) _ _ h in
    let to = bind_ok (argument t 2 field.To a_whole) _ _ from.2 in
    let same : GetDeltas from.0 to.0 ≡ e = cc in
    subst (λ d. SpellsEvent d t) same (record {
      named = word;
      its_from = argument_spelled a_whole SpellsWhole whole-reads t 1 field.From from.0 from.1;
      its_to = argument_spelled a_whole SpellsWhole whole-reads t 2 field.To to.0 to.1;
    })

get_summary_spelled : (t : Tree) (e : Event) → IsNamed heard.GetSummary t → get_summary t ≡ Ok e → SpellsEvent e t
unfolding get_summary
get_summary_spelled t e word h =
    let pick = bind_ok (argument t 1 field.Pick asked) _ _ h in
    let same : GetSummary pick.0 ≡ e = cc in
    subst (λ d. SpellsEvent d t) same (record { named = word; its_pick = argument_spelled asked SpellsAsked asked-reads t 1 field.Pick pick.0 pick.1 })

get_object_spelled : (t : Tree) (e : Event) → IsNamed heard.GetObject t → get_object t ≡ Ok e → SpellsEvent e t
unfolding get_object
get_object_spelled t e word h =
    let id = bind_ok (argument t 1 field.Id an_id) _ _ h in
    let same : GetObject id.0 ≡ e = cc in
    subst (λ d. SpellsEvent d t) same (record { named = word; its_id = argument_spelled an_id SpellsId id-reads t 1 field.Id id.0 id.1 })

put_object_spelled : (t : Tree) (e : Event) → IsNamed heard.PutObject t → put_object t ≡ Ok e → SpellsEvent e t
unfolding put_object
put_object_spelled t e word h =
    let bytes = bind_ok (argument t 1 field.Object hex_bytes) _ _ h in
    let same : PutObject bytes.0 ≡ e = cc in
    subst (λ d. SpellsEvent d t) same (record { named = word; its_object = argument_spelled hex_bytes SpellsBytes bytes-reads t 1 field.Object bytes.0 bytes.1 })

by_name : (n : EventName) (t : Tree) (e : Event) → IsNamed n t → event_of n t ≡ Ok e → SpellsEvent e t
by_name heard.ConnectDocument t e word h = connect_spelled t e word h
by_name heard.SubmitOp t e word h = submit_op_spelled t e word h
by_name heard.GetDeltas t e word h = get_deltas_spelled t e word h
by_name heard.GetSummary t e word h = get_summary_spelled t e word h
by_name heard.GetObject t e word h = get_object_spelled t e word h
by_name heard.PutObject t e word h = put_object_spelled t e word h

event_spelled : (t : Tree) (e : Event) → event t ≡ Ok e → SpellsEvent e t
unfolding event
event_spelled t e h =
    let n = bind_ok (event_name t) _ _ h in
    by_name n.0 t e (named_spelled t n.0 n.1) n.2

-- ---- and the other way

named_event : (t : Tree) (n : EventName) (r : Read Event) → IsNamed n t → event_of n t ≡ r → event t ≡ r
unfolding event
named_event t n r word h = rw (named_read t n word) h

connect_read : (t : Tree) (id : List ℕ) (write : Bool) (scopes : _) (client : Tree) → HasItem t 1 (SpellsConnection id write scopes client) → connect_document t ≡ Ok (Connect id write scopes client)
unfolding connect_document
connect_read t id write scopes client h = of (item 1 t) h
  where
    of : (o : Option Tree) → IsSomeAnd o (SpellsConnection id write scopes client) → ((present field.Connect o >>= an_object field.Connect) >>= connection) ≡ Ok (Connect id write scopes client)
    of None h = absurd h
    of (Some u) h = rw (an_object_read SpellsName field.Connect field.Id u id h.its_name) (connection_read u (Connect id write scopes client) h)

event_read : (t : Tree) (e : Event) → SpellsEvent e t → event t ≡ Ok e
unfolding submit_op get_deltas get_summary get_object put_object
event_read t (Connect id write scopes client) h = named_event t heard.ConnectDocument _ h.named (connect_read t id write scopes client h.its_connection)
event_read t (SubmitOp id submissions) h =
    named_event t heard.SubmitOp _ h.named
    (rw (
      argument_read name SpellsName name-reads t 1 field.ClientId id h.its_id,
      argument_read batches SpellsBatches batches-reads t 2 field.Messages submissions h.its_messages,
    )
    refl)
event_read t (GetDeltas from to) h =
    named_event t heard.GetDeltas _ h.named
    (rw (
      argument_read a_whole SpellsWhole whole-reads t 1 field.From from h.its_from,
      argument_read a_whole SpellsWhole whole-reads t 2 field.To to h.its_to,
    )
    refl)
event_read t (GetSummary pick) h =
    named_event t heard.GetSummary _ h.named (rw (argument_read asked SpellsAsked asked-reads t 1 field.Pick pick h.its_pick) refl)
event_read t (GetObject id) h =
    named_event t heard.GetObject _ h.named (rw (argument_read an_id SpellsId id-reads t 1 field.Id id h.its_id) refl)
event_read t (PutObject bytes) h =
    named_event t heard.PutObject _ h.named (rw (argument_read hex_bytes SpellsBytes bytes-reads t 1 field.Object bytes h.its_object) refl)

pub events_are_spelled : EventsAreSpelled
events_are_spelled = spelled_exactly event SpellsEvent event_spelled event_read
