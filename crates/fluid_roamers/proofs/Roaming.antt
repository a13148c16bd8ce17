-- What entries and calls leave of a roamer that is the world's.
use Rattle.std.proofs.Common.{◌≡◌, ◌⊎◌, inl, inr, ℕ, ◌+◌, ◌<◌, ◌≤◌, ◌^◌, arith, Bool, true, false, not, ◌||◌, if◌then◌else◌, List, [], ◌∷◌, ◌++◌, length, map, drop, Some, None, IfSome, bytes_eq, refl, sym, ap, subst, ◌∙◌, length-append, length-drop, append-nil}
use Rattle.std.specs.Prelude.{All}
use Rattle.std.proofs.lemmas.List.{length-map, map-append, drop-append-le}
use Rattle.std.proofs.lemmas.Fmt.{decimal_injective}
use Rattle.fluid_json.specs.Tree.{Tree}
use Rattle.fluid_types.specs.Ledger.{Ledger, order, seq}
use Rattle.fluid_types.specs.Names.{entry_name}
use Rattle.fluid_rules.specs.Past.{has_id}
use Rattle.fluid_rules.specs.Rules.{IsLegal, client}
use Rattle.fluid_rules.proofs.Ids.{same_id, own_id}
use Rattle.fluid_edits.specs.declared.edit.Edit.{Edit}
use Rattle.fluid_edits.specs.Forms.{contents_of}
use Rattle.fluid_loader.specs.Container.{AContainer}
use Rattle.fluid_outbox.specs.Past.{Past, Pushed, Joined, Lost, edits, ids, current, heard_to, acknowledged, sent, has_left, given}
use Rattle.fluid_outbox.specs.Kept.{Stands as OutboxStands}
use Rattle.fluid_transcript.specs.World.{Container, Roamer as ARoamer}
use Rattle.fluid_transcript.specs.Containers.{id_of, channels, last}
use Rattle.fluid_transcript.specs.Roamers.{edits as edits_said, with_edit}
use Rattle.fluid_holding.specs.Holding.{IsContainerOf, IsWithin, is_made_by}
use Rattle.fluid_holding.specs.Laws.{Stands, OthersLeave}
use Rattle.fluid_roamers.specs.Ahead.{IsBeside, own_in, left_in}
use Rattle.fluid_roamers.specs.Roaming.{AreUsed, IsRoaming, current_of}
use Rattle.fluid_roamers.specs.Taking.{TakesClient, Loses, LaidOver}
use Rattle.fluid_roamers.specs.declared.roamer.Roamer.{Roamer}
use Rattle.fluid_roamers.proofs.Entries.{here, others_stay_beside, others_count}
use Rattle.fluid_roamers.proofs.Outboxes.{joins_beside, lost_beside, pushed_beside, drop_whole}

-- ---- entries of others

pub others_leave : OthersLeave → (l more : Ledger) (h : Roamer) (k : ARoamer) (rest : List Edit) → IsLegal (l ++ more) → Stands l k.client
    → All (λ entry. is_made_by (id_of k.client) entry.0 ≡ false) more → IsRoaming l h k rest → IsRoaming (l ++ more) h k rest
others_leave law l more h k rest legal stands all is =
    let c = id_of k.client in
    let own : h.client ≡ c = is.container.client_is in
    let container : IsContainerOf (l ++ more) h.client is.held k.client = law l more h.client is.held k.client stands (subst (λ id. All (λ entry. is_made_by id entry.0 ≡ false) more) (sym own) all) is.container in
    record {
      document = is.document;
      held = is.held;
      container = container;
      channels = is.channels;
      pending = is.pending;
      edits_are = is.edits_are;
      past = is.past;
      outbox = is.outbox;
      stood = is.stood;
      contents = is.contents;
      heard = is.heard;
      before = is.before;
      own = is.own;
      beside = others_stay_beside l more is.past c k.client.number is.before is.own legal stands.number all is.beside;
      used = is.used;
      now = is.now;
      sends = λ there.
          let s = is.sends there in
          record {
            out = s.out;
            are = s.are;
            sent_are = s.sent_are;
            stand = ap (λ n. is.own + n) (others_count l more c k.client.number legal stands.number all) ∙ s.stand;
            last_is = sym container.last_is ∙ is.container.last_is ∙ s.last_is;
          };
    }

-- ---- lost

module _ (past : Past) where
  lost_edits : edits (Lost ∷ past) ≡ edits past
  unfolding edits
  lost_edits = refl

  lost_ids : ids (Lost ∷ past) ≡ ids past
  unfolding ids
  lost_ids = refl

  lost_current : current (Lost ∷ past) ≡ None
  unfolding current
  lost_current = refl

  lost_heard : heard_to (Lost ∷ past) ≡ heard_to past
  unfolding heard_to
  lost_heard = refl

  lost_sent : (id : List ℕ) → sent (Lost ∷ past) id ≡ sent past id
  unfolding sent given
  lost_sent id = refl

  lost_left : (id : List ℕ) → has_left (Lost ∷ past) id ≡ has_left past id
  unfolding has_left
  lost_left id = refl

  lost_acked : acknowledged (Lost ∷ past) ≡ acknowledged past
  unfolding acknowledged
  lost_acked = refl

true_false : true ≡ false → ⊥
true_false is = cc

-- one that is lost has sent as much as before
pub loses : (l : Ledger) (h new : Roamer) (k : ARoamer) (rest more : List Edit) (is : IsRoaming l h k rest) → Loses is.past h new → IsRoaming l new (record k { is_lost = true }) more
loses l h new k rest more is lost = record {
  document = lost.same.document ∙ is.document;
  held = is.held;
  container = subst (λ own. IsContainerOf l own is.held k.client) (sym lost.same.client) is.container;
  channels = ap (λ app. app.channels) lost.app ∙ is.channels;
  pending = ap (λ app. app.pending) lost.app ∙ is.pending;
  edits_are = lost.same.edits ∙ is.edits_are;
  past = Lost ∷ is.past;
  outbox = lost.outbox;
  stood = lost_acked is.past ∙ is.stood;
  contents = ap (drop k.stood) (lost_edits is.past) ∙ is.contents;
  heard = lost_heard is.past ∙ is.heard;
  before = is.before;
  own = is.own;
  beside = lost_beside l is.past (id_of k.client) k.client.number is.before is.own is.beside;
  used = λ id there. is.used id (ap (has_id id) (sym (lost_ids is.past)) ∙ there);
  now = lost_current is.past;
  sends = λ there. absurd (true_false there);
}

-- one that is lost has whatever edits left to send
pub at_rest : (l : Ledger) (h : Roamer) (k : ARoamer) (rest : List Edit) → k.is_lost ≡ true → IsRoaming l h k rest → IsRoaming l h k []
at_rest l h k rest gone is = record {
  document = is.document;
  held = is.held;
  container = is.container;
  channels = is.channels;
  pending = is.pending;
  edits_are = is.edits_are;
  past = is.past;
  outbox = is.outbox;
  stood = is.stood;
  contents = is.contents;
  heard = is.heard;
  before = is.before;
  own = is.own;
  beside = is.beside;
  used = is.used;
  now = is.now;
  sends = λ still. absurd (true_false (sym gone ∙ still));
}

-- ---- an edit that is laid over

module _ (past : Past) (contents : Tree) where
  pushed_edits : edits (Pushed contents ∷ past) ≡ edits past ++ contents ∷ []
  unfolding edits
  pushed_edits = refl

  pushed_ids : ids (Pushed contents ∷ past) ≡ ids past
  unfolding ids
  pushed_ids = refl

  pushed_current : current (Pushed contents ∷ past) ≡ current past
  unfolding current
  pushed_current = refl

  pushed_heard : heard_to (Pushed contents ∷ past) ≡ heard_to past
  unfolding heard_to
  pushed_heard = refl

  pushed_sent : (id : List ℕ) → sent (Pushed contents ∷ past) id ≡ sent past id
  unfolding sent given
  pushed_sent id = refl

  pushed_acked : acknowledged (Pushed contents ∷ past) ≡ acknowledged past
  unfolding acknowledged
  pushed_acked = refl

-- how many edits were said before
pub said_before : (l : Ledger) (h : Roamer) (k : ARoamer) (rest : List Edit) (is : IsRoaming l h k rest) → length (edits is.past) ≡ edits_said k
said_before l h k rest is =
    omega (arith, ap (λ (xs : List Tree). length xs) is.contents, length-map k.client.pending contents_of, length-drop k.stood (edits is.past), is.outbox.few, is.stood)

with_pending : (l : Ledger) (own : List ℕ) (c : AContainer) (k : Container) (pending : List Edit) → IsContainerOf l own c k → IsContainerOf l own (record c { pending = pending }) (record k { pending = pending })
with_pending l own c k pending is = record {
  client_is = is.client_is;
  number = is.number;
  channels_are = is.channels_are;
  pending = refl;
  last_is = is.last_is;
  head_is = is.head_is;
  known = is.known;
}

pub lays_over : (l : Ledger) (h new : Roamer) (k : ARoamer) (edit : Edit) (number : ℕ) (is : IsRoaming l h k []) → LaidOver is.past h edit new number → IsRoaming l new (with_edit k edit) (edit ∷ [])
lays_over l h new k edit number is laid =
    let c = id_of k.client in
    let few : k.stood ≤ length (edits is.past) = omega (arith, is.outbox.few, is.stood) in
    record {
      document = laid.document ∙ is.document;
      held = record is.held { pending = k.client.pending ++ edit ∷ [] };
      container = subst (λ own. IsContainerOf l own (record is.held { pending = k.client.pending ++ edit ∷ [] }) (with_edit k edit).client) (sym laid.client) (with_pending l h.client is.held k.client (k.client.pending ++ edit ∷ []) is.container);
      channels = ap (λ app. app.channels) laid.app ∙ is.channels;
      pending = ap (λ app. app.pending) laid.app ∙ ap (λ es. es ++ edit ∷ []) is.pending;
      edits_are = omega (arith, laid.edits, laid.number_is, said_before l h k [] is, length-append k.client.pending (edit ∷ []));
      past = Pushed (contents_of edit) ∷ is.past;
      outbox = laid.outbox;
      stood = pushed_acked is.past (contents_of edit) ∙ is.stood;
      contents =
          ap (drop k.stood) (pushed_edits is.past (contents_of edit)) ∙ drop-append-le k.stood (edits is.past) (contents_of edit ∷ []) few
          ∙ ap (λ xs. xs ++ contents_of edit ∷ []) is.contents ∙ sym (map-append contents_of k.client.pending (edit ∷ []));
      heard = pushed_heard is.past (contents_of edit) ∙ is.heard;
      before = is.before;
      own = is.own;
      beside = pushed_beside l is.past (contents_of edit) c k.client.number is.before is.own is.beside;
      used = λ id there. is.used id (ap (has_id id) (sym (pushed_ids is.past (contents_of edit))) ∙ there);
      now = pushed_current is.past (contents_of edit) ∙ is.now;
      sends = λ there.
          let s = is.sends there in
          record {
            out = s.out;
            are = ap (λ es. es ++ edit ∷ []) (s.are ∙ append-nil s.out);
            sent_are = s.sent_are ∙ sym (pushed_sent is.past (contents_of edit) c);
            stand = s.stand ∙ sym (pushed_sent is.past (contents_of edit) c);
            last_is = s.last_is ∙ sym (pushed_sent is.past (contents_of edit) c);
          };
    }

-- ---- a new client

module _ (past : Past) (c : List ℕ) where
  joined_edits : edits (Joined c ∷ Lost ∷ past) ≡ edits past
  unfolding edits
  joined_edits = refl

  joined_ids : ids (Joined c ∷ Lost ∷ past) ≡ c ∷ ids past
  unfolding ids
  joined_ids = refl

  joined_current : current (Joined c ∷ Lost ∷ past) ≡ Some c
  unfolding current
  joined_current = refl

  joined_heard : heard_to (Joined c ∷ Lost ∷ past) ≡ heard_to past
  unfolding heard_to
  joined_heard = refl

  joined_sent : (id : List ℕ) → sent (Joined c ∷ Lost ∷ past) id ≡ sent past id
  unfolding sent given
  joined_sent id = refl

  joined_acked : acknowledged (Joined c ∷ Lost ∷ past) ≡ acknowledged past
  unfolding acknowledged
  joined_acked = refl

-- the ids of entries up to a number, with that of a later one
used_more : (entries next : ℕ) (past : Past) → entries ≤ next → AreUsed entries past → AreUsed next (Joined (entry_name next) ∷ Lost ∷ past)
used_more entries next past le used id there = by (bytes_eq id (entry_name next)) refl (ap (has_id id) (sym (joined_ids past (entry_name next))) ∙ there)
  where
    later : (n : ℕ) × ((n ≤ entries) × (id ≡ entry_name n)) → (n : ℕ) × ((n ≤ next) × (id ≡ entry_name n))
    later found = (found.0, (omega (arith, found.1.0, le), found.1.1))

    by : (b : Bool) → bytes_eq id (entry_name next) ≡ b → has_id id (entry_name next ∷ ids past) ≡ true → (n : ℕ) × ((n ≤ next) × (id ≡ entry_name n))
    by true same has = (next, (omega arith, same_id id (entry_name next) same))
    by false other has = later (used id (ap (λ b. b || has_id id (ids past)) (sym other) ∙ has))

-- what a container of a new client is like, in all that its edits don't tell
pub record IsNewIn (l : Ledger) (k : Container) : Type 0 where
  pub last_is : last l k ≡ 0
  pub known : IfSome (client l (id_of k)) (IsWithin 0 (seq l))
  pub there : here l (id_of k) ≡ true

-- a roamer that heard all is ready to go on as this client, of whose edits none was sent for it yet
pub record IsReady (l : Ledger) (h : Roamer) (k : ARoamer) : Type 0 where
  pub going : k.is_lost ≡ false
  pub number : k.client.number ≡ seq l
  pub new_in : IsNewIn l k.client
  pub document : h.document ≡ k.client.document
  pub held : AContainer
  pub container : IsContainerOf l (id_of k.client) held k.client
  pub channels : h.app.channels ≡ held.channels
  pub pending : h.app.pending ≡ k.client.pending
  pub edits_are : h.edits ≡ edits_said k
  pub past : Past
  pub outbox : OutboxStands h.outbox past
  pub stood : acknowledged past ≡ k.stood
  pub contents : drop k.stood (edits past) ≡ map contents_of k.client.pending
  pub heard : heard_to past ≡ k.client.number
  pub unsent : sent past (id_of k.client) ≡ 0
  pub settled : (id : List ℕ) → bytes_eq id (id_of k.client) ≡ false → (sent past id ≡ 0) ⊎ (has_left past id ≡ true)
  pub entries : ℕ
  pub older : entries ≤ k.client.entries
  pub used : AreUsed entries past

pub turns : (l : Ledger) (h new : Roamer) (k : ARoamer) (is : IsReady l h k) → TakesClient is.past (id_of k.client) h new → IsRoaming l new k k.client.pending
turns l h new k is turned =
    let c = id_of k.client in
    let beside_then : IsBeside l (Joined c ∷ Lost ∷ is.past) c (seq l) k.stood 0 =
    joins_beside l (Lost ∷ is.past) c k.stood (lost_acked is.past ∙ is.stood) (lost_sent is.past c ∙ is.unsent) is.new_in.there (λ id other. settled_lost id (is.settled id other)) in
    record {
      document = turned.document ∙ is.document;
      held = is.held;
      container = subst (λ own. IsContainerOf l own is.held k.client) (sym turned.client_is) is.container;
      channels = ap (λ app. app.channels) turned.app ∙ is.channels;
      pending = ap (λ app. app.pending) turned.app ∙ is.pending;
      edits_are = turned.edits ∙ is.edits_are;
      past = Joined c ∷ Lost ∷ is.past;
      outbox = turned.outbox;
      stood = joined_acked is.past c ∙ is.stood;
      contents = ap (drop k.stood) (joined_edits is.past c) ∙ is.contents;
      heard = joined_heard is.past c ∙ is.heard;
      before = k.stood;
      own = 0;
      beside = subst (λ n. IsBeside l (Joined c ∷ Lost ∷ is.past) c n k.stood 0) (sym is.number) beside_then;
      used = used_more is.entries k.client.entries is.past is.older is.used;
      now = joined_current is.past c ∙ ap (λ b. current_of b c) (sym is.going);
      sends = λ there. record {
        out = [];
        are = refl;
        sent_are = sym (joined_sent is.past c c ∙ is.unsent);
        stand = ap (λ n. 0 + own_in c (drop n (order l))) is.number ∙ ap (λ xs. 0 + own_in c xs) (drop_whole l) ∙ sym (joined_sent is.past c c ∙ is.unsent);
        last_is = is.new_in.last_is ∙ sym (joined_sent is.past c c ∙ is.unsent);
      };
    }
  where
    settled_lost : (id : List ℕ) → (sent is.past id ≡ 0) ⊎ (has_left is.past id ≡ true) → (sent (Lost ∷ is.past) id ≡ 0) ⊎ (has_left (Lost ∷ is.past) id ≡ true)
    settled_lost id (inl none) = inl (lost_sent is.past id ∙ none)
    settled_lost id (inr left) = inr (lost_left is.past id ∙ left)

-- a roamer that is back: it heard all behind the leave of its last client, and goes on as the client of a later entry
abbrev pub as_client : ARoamer → (entries : ℕ) → ARoamer
as_client k entries = record k { client = record k.client { entries = entries }; is_lost = false }

pub names_differ : (n m : ℕ) → n < 2 ^ 64 → m < n → bytes_eq (entry_name m) (entry_name n) ≡ false
names_differ n m fits lt = by (bytes_eq (entry_name m) (entry_name n)) refl
  where
    by : (b : Bool) → bytes_eq (entry_name m) (entry_name n) ≡ b → b ≡ false
    by true same =
        let equal : m ≡ n = decimal_injective m n (omega (arith, fits, lt)) fits (ap (λ s. drop 1 s) (same_id (entry_name m) (entry_name n) same)) in
        absurd (omega (arith, equal, lt))
    by false other = refl

unused : (entries n : ℕ) (past : Past) → entries < n → n < 2 ^ 64 → AreUsed entries past → has_id (entry_name n) (ids past) ≡ false
unused entries n past lt fits used = by (has_id (entry_name n) (ids past)) refl
  where
    by : (b : Bool) → has_id (entry_name n) (ids past) ≡ b → b ≡ false
    by true there =
        let found = used (entry_name n) there in
        absurd (true_false (sym (ap (λ id. bytes_eq id (entry_name n)) (sym found.1.1) ∙ own_id (entry_name n)) ∙ names_differ n found.0 fits (omega (arith, found.1.0, lt))))
    by false none = refl

module _ (l : Ledger) (h : Roamer) (k : ARoamer) (entries : ℕ) (is : IsRoaming l h k []) (number : k.client.number ≡ seq l) (gone : here l (id_of k.client) ≡ false) (later : k.client.entries < entries) (fits : entries < 2 ^ 64)
    (new_in : IsNewIn l (record k.client { entries = entries })) where
  pub never_used : has_id (entry_name entries) (ids is.past) ≡ false
  never_used = unused k.client.entries entries is.past later fits is.used

  left_then : has_left is.past (id_of k.client) ≡ true
  left_then =
      sym (ap (left_in (id_of k.client) (has_left is.past (id_of k.client))) (ap (λ n. drop n (order l)) number ∙ drop_whole l)) ∙ is.beside.left ∙ ap not gone

  settled_by : (id : List ℕ) (b : Bool) → bytes_eq id (id_of k.client) ≡ b → (sent is.past id ≡ 0) ⊎ (has_left is.past id ≡ true)
  settled_by id true same = inr (ap (has_left is.past) (same_id id (id_of k.client) same) ∙ left_then)
  settled_by id false other = is.beside.settled id other

  abbrev fresh : AContainer
  fresh = record is.held { last = 0 }

  pub back_ready : IsReady l h (as_client k entries)
  back_ready = record {
    going = refl;
    number = number;
    new_in = new_in;
    document = is.document;
    held = fresh;
    container = record {
      client_is = refl;
      number = is.container.number;
      channels_are = is.container.channels_are;
      pending = is.container.pending;
      last_is = sym new_in.last_is;
      head_is = is.container.head_is;
      known = subst (λ n. IfSome (client l (entry_name entries)) (IsWithin 0 n)) (sym (is.container.number ∙ number)) new_in.known;
    };
    channels = is.channels;
    pending = is.pending;
    edits_are = is.edits_are;
    past = is.past;
    outbox = is.outbox;
    stood = is.stood;
    contents = is.contents;
    heard = is.heard;
    unsent = is.outbox.strangers (entry_name entries) never_used;
    settled = λ id other. settled_by id (bytes_eq id (id_of k.client)) refl;
    entries = k.client.entries;
    older = omega (arith, later);
    used = is.used;
  }

  pub turns_back : (new : Roamer) → TakesClient is.past (entry_name entries) h new → IsRoaming l new (as_client k entries) k.client.pending
  unfolding back_ready
  turns_back new turned = turns l h new (as_client k entries) back_ready turned
