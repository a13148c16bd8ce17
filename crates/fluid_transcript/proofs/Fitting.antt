-- What each step does to a sound world: the store keeps all, and one name changes as it may.
use Rattle.std.proofs.Common.{◌≡◌, ◌⊎◌, inl, inr, ℕ, ◌+◌, ◌-◌, ◌≤◌, ◌^◌, arith, Bool, true, false, cond, not, ◌&&◌, if◌then◌else◌, List, [], ◌∷◌, ◌++◌, length, All, Option, Some, None, Ok, Err, bytes_eq, refl, sym, ap, subst, ◌∙◌, append-nil, length-append}
use Rattle.std.specs.Prelude.{nat_le, IfSome, slice_get}
use Rattle.std.specs.List.{filter_map}
use Rattle.std.specs.Option.{option_or}
use Rattle.std.specs.FinMap.{get, insert}
use Rattle.std.proofs.lemmas.List.{length-map}
use Rattle.std.proofs.lemmas.List.Elements.{All-head, All-tail}
use Rattle.std.proofs.lemmas.Slice.Eq.{bytes_eq-Decides}
use Rattle.std.proofs.Math.Nat.{min-le_left}
use Rattle.sha1.specs.Sha1.{sha1}
use Rattle.fluid_table.proofs.Places.{get_inserted}
use Rattle.fluid_json.specs.Tree.{Tree}
use Rattle.fluid_types.specs.declared.entries.Raw.{Raw}
use Rattle.fluid_types.specs.declared.entries.Scopes.{Scopes}
use Rattle.fluid_types.specs.declared.messages.Message.{Message}
use Rattle.fluid_types.specs.declared.verdicts.Verdict.{Verdict}
use Rattle.fluid_types.specs.declared.verdicts.Verdict.TheVariants.{Sequenced, Nacked, Dropped, Absorbed}
use Rattle.fluid_types.specs.Ledger.{Ledger, seq, raws}
use Rattle.fluid_types.specs.Names.{entry_name}
use Rattle.fluid_rules.specs.Rules.{verdict, ledger}
use Rattle.fluid_rules.specs.declared.limits.Limits.{Limits}
use Rattle.fluid_rules.proofs.Joined.{some_same}
use Rattle.fluid_rules.proofs.Legal.{ledger-raws}
use Rattle.fluid_rules.proofs.Verdicts.{verdict-is_message, message-number}
use Rattle.fluid_store.specs.Held.{Held, Keeps}
use Rattle.fluid_store.specs.Putting.{Putting, putting, put_first}
use Rattle.fluid_store.specs.declared.listing.StoredObject.{StoredObject}
use Rattle.fluid_codec.specs.Events.{event_spelled}
use Rattle.fluid_codec.specs.declared.events.Event.{Event}
use Rattle.fluid_codec.specs.declared.events.Event.TheVariants as event
use Rattle.fluid_types.specs.Forms.{Read}
use Rattle.fluid_codec.specs.declared.replies.Reply.{Reply}
use Rattle.fluid_voice.specs.declared.states.VoiceState.{VoiceState}
use Rattle.fluid_voice.specs.declared.states.VoiceState.TheVariants.{Fresh, Reading, Writing, Used}
use Rattle.fluid_voice.specs.declared.actions.Act.{Act}
use Rattle.fluid_voice.specs.declared.actions.Act.TheVariants as act
use Rattle.fluid_voice.specs.declared.ends.ActEnd.{ActEnd}
use Rattle.fluid_voice.specs.declared.ends.ActEnd.TheVariants.{Joined, Told, Entered, FullNow, TooMany, Given}
use Rattle.fluid_voice.specs.States as states
use Rattle.fluid_voice.specs.States.{number_behind}
use Rattle.fluid_voice.specs.Heard.{refuses, read_acts, acts_of}
use Rattle.fluid_voice.specs.Refusals.{refused}
use Rattle.fluid_voice.specs.declared.refusals.ConnectRefusal.TheVariants.{ReadMissing, TooManyDocuments}
use Rattle.fluid_voice.specs.Replies.{connect_state, state_after}
use Rattle.fluid_voice.specs.Ends.{Outcome, outcome, held_behind, held_with, is_beyond, join_of, joined_by, connect_end}
use Rattle.fluid_voice.specs.Ends.Outcome.{ends, clashes}
use Rattle.fluid_voice.proofs.Staying.{connected_stay}
use Rattle.fluid_transcript.specs.World.{Document, Name, connection, container, roamer, used_up, World, document, is_open, Effect, says, grown, changed}
use Rattle.fluid_transcript.specs.Connections.{Hearing, found_by, behind_act, hear_act, hear, voice_named, voice_of, effect_of, sent, sent_to, connects}
use Rattle.fluid_transcript.specs.Steps.{refusal_to_send}
use Rattle.fluid_transcript.specs.Sound.{GoesOnAs, client_in, ledger_in, IsFed, IsSoundVoice, IsSoundName, IsSound}
use Rattle.fluid_transcript.proofs.Sounds.{open_stays, seq_on, document_own, changed_grows, voice_stays, IsNewClient, NamesFit, EffectFits}

-- ---- the store

-- the same bytes under an id, or the first
pub insert_keeps : (held : Held) (id bytes : List ℕ) → ((other : List ℕ) → get held id ≡ Some other → other ≡ bytes) → Keeps held (insert held id bytes)
insert_keeps held id bytes same q b has = get_inserted held id bytes q ∙ by (bytes_eq q id) refl
  where
    by : (own : Bool) → bytes_eq q id ≡ own → cond own (Some bytes) (get held q) ≡ Some b
    by true is = ap Some (sym (same b (ap (get held) (sym ((bytes_eq-Decides q id).0 is)) ∙ has)))
    by false is = has

pub putting_keeps : (held : Held) (objects : List StoredObject) → Keeps held (putting held objects).held
putting_keeps held [] = λ q b has. has
putting_keeps held (o ∷ os) = by (get held o.id) refl (putting_keeps (insert held o.id o.bytes) os)
  where
    later : Putting
    later = putting (insert held o.id o.bytes) os

    as_same : (kept : List ℕ) (same : Bool) → bytes_eq kept o.bytes ≡ same → get held o.id ≡ Some kept → Keeps (insert held o.id o.bytes) later.held
        → Keeps held (if same then (record later { put = o ∷ later.put }) else (record { held = held; put = []; clash = Some (record { id = o.id; kept = kept; bytes = o.bytes }) })).held
    as_same kept true is there keeps = λ q b has.
        keeps q b (insert_keeps held o.id o.bytes (λ other there_too. let e : other ≡ kept = cc in e ∙ (bytes_eq-Decides kept o.bytes).0 is) q b has)
    as_same kept false is there keeps = λ q b has. has

    by : (found : Option (List ℕ)) → get held o.id ≡ found → Keeps (insert held o.id o.bytes) later.held → Keeps held (put_first held o found later).held
    by None is keeps = λ q b has. keeps q b (insert_keeps held o.id o.bytes (λ other there. absurd (let no : None ≡ Some other = sym is ∙ there in cc)) q b has)
    by (Some kept) is keeps = as_same kept (bytes_eq kept o.bytes) refl is keeps

held_with_keeps : (held : Held) (bytes : List ℕ) (found : Option (List ℕ)) → get held (sha1 bytes) ≡ found → Keeps held (held_with held bytes found)
held_with_keeps held bytes None is = insert_keeps held (sha1 bytes) bytes (λ other there. absurd (let no : None ≡ Some other = sym is ∙ there in cc))
held_with_keeps held bytes (Some kept) is = λ q b has. has

act_keeps : (held : Held) (a : Act) → Keeps held (held_behind held a)
act_keeps held (act.Say reply) = λ q b has. has
act_keeps held (act.Connect name write scopes detail moment) = λ q b has. has
act_keeps held (act.Enter raw) = λ q b has. has
act_keeps held (act.Deltas from to) = λ q b has. has
act_keeps held (act.Summary asked) = λ q b has. has
act_keeps held (act.GetObject id) = λ q b has. has
act_keeps held (act.PutObject bytes) = held_with_keeps held bytes (get held (sha1 bytes)) refl

-- ---- steps that change no name

pub plain : (w : World) (about : Option (List ℕ)) (e : Effect) → e.name ≡ None → Keeps w.store e.store → EffectFits w about e
plain w about e is keeps = record { held = keeps; name = subst (NamesFit w (changed e about w)) (sym is) tt }

pub keeps_self : (held : Held) → Keeps held held
keeps_self held q b has = has

-- ---- send

module _ (limits : Limits) (opened : List (List ℕ)) (c : List ℕ) (d : Document) where
  act_holds : (h : Hearing) (a : Act) (o : Outcome) → Keeps h.store (behind_act c (found_by limits opened d h) a h o).store
  act_holds h a (ends end) = act_keeps h.store a
  act_holds h a (clashes id kept new) = λ q b has. has

  hear_keeps : (h : Hearing) (acts : List Act) → Keeps h.store (hear limits opened c d h acts).store
  hear_keeps h [] = λ q b has. has
  hear_keeps h (a ∷ acts) = λ q b has.
      hear_keeps (hear_act limits opened c d h a) acts q b (act_holds h a (outcome (found_by limits opened d h) a) q b has)

  act_voice : (s : VoiceState) (h : Hearing) (a : Act) (o : Outcome) → h.voice ≡ s → ((end : ActEnd) → state_after s a end ≡ s) → (behind_act c (found_by limits opened d h) a h o).voice ≡ s
  act_voice s h a (ends end) is stays = ap (λ v. state_after v a end) is ∙ stays end
  act_voice s h a (clashes id kept new) is stays = is

  hear_voice : (s : VoiceState) (h : Hearing) (acts : List Act) → h.voice ≡ s → All (λ a. (end : ActEnd) → state_after s a end ≡ s) acts → (hear limits opened c d h acts).voice ≡ s
  hear_voice s h [] is stay = is
  hear_voice s h (a ∷ acts) is stay =
      hear_voice s (hear_act limits opened c d h a) acts
      (act_voice s h a (outcome (found_by limits opened d h) a) is (All-head (λ a. (end : ActEnd) → state_after s a end ≡ s) a acts stay))
      (All-tail (λ a. (end : ActEnd) → state_after s a end ≡ s) a acts stay)

-- a connection that hears something from where it stands
abbrev pub hearing_as : World → VoiceState → Hearing
hearing_as w s = record { entries = []; store = w.store; voice = s; lines = [] }

abbrev sent_as : Limits → World → Document → (c text : List ℕ) → VoiceState → Effect
sent_as limits w d c text s = effect_of c (hear limits w.opened c d (hearing_as w s) (acts_of s text w.moment))

sends_on : (o : Option Name) (v : VoiceState) → refusal_to_send o ≡ None → GoesOnAs o (Some (connection v))
sends_on None v h = tt
sends_on (Some (connection old)) v h = tt
sends_on (Some (container k)) v h = absurd (cc)
sends_on (Some (roamer k)) v h = absurd (cc)
sends_on (Some used_up) v h = absurd (cc)

-- a connection that brings no client of its own
mere : (w : World) (about : Option (List ℕ)) (e : Effect) (c : List ℕ) (v : VoiceState) → refusal_to_send (get w.names c) ≡ None → Keeps w.store e.store
    → e.name ≡ Some (c, connection v) → IsSoundVoice (changed e about w) v → client_in (Some (connection v)) ≡ None → EffectFits w about e
mere w about e c v accepted keeps is sound none = record {
  held = keeps;
  name = subst (NamesFit w (changed e about w)) (sym is) (record {
    sound = sound;
    goes_on = sends_on (get w.names c) v accepted;
    client = λ name id h. absurd (let no : None ≡ Some (name, id) = sym none ∙ h in cc);
  });
}

-- one that is connected stays where it stands
same_voice : (w : World) (about : Option (List ℕ)) (e : Effect) (c : List ℕ) (v : VoiceState) → IsSound w → get w.names c ≡ Some (connection v) → Keeps w.store e.store
    → e.name ≡ Some (c, connection v) → EffectFits w about e
same_voice w about e c v sound there keeps is = record {
  held = keeps;
  name = subst (NamesFit w (changed e about w)) (sym is) (record {
    sound = voice_stays w (changed e about w) (changed_grows e about w keeps) v (subst (λ o. IfSome o (IsSoundName w)) there (sound.names c));
    goes_on = subst (λ o. GoesOnAs o (Some (connection v))) (sym there) tt;
    client = λ name id h. inl (ap client_in there ∙ h);
  });
}

connected_sends : (limits : Limits) (w : World) (about : Option (List ℕ)) (d : Document) (c text : List ℕ) (s : VoiceState) → IsSound w → get w.names c ≡ Some (connection s)
    → states.is_connected s ≡ true → EffectFits w about (sent_as limits w d c text s)
connected_sends limits w about d c text s sound there connected =
    same_voice w about (sent_as limits w d c text s) c s sound there (hear_keeps limits w.opened c d (hearing_as w s) (acts_of s text w.moment))
    (ap (λ v. Some (c, connection v)) (hear_voice limits w.opened c d s (hearing_as w s) (acts_of s text w.moment) refl (connected_stay s text w.moment connected)))

-- ---- a fresh connection hears something

fresh_acts : (P : List Act → Type 0) (text : List ℕ) (moment : ℕ) → ((reply : Reply) → P (act.Say reply ∷ []))
    → ((name : List ℕ) (write : Bool) (scopes : Scopes) (client : Tree) → P (act.Connect name write scopes client moment ∷ [])) → P (acts_of Fresh text moment)
unfolding acts_of
fresh_acts P text moment says connects = of_read (event_spelled text)
  where
    connecting : (missing : Bool) (name : List ℕ) (write : Bool) (scopes : Scopes) (client : Tree)
        → P (if missing then refuses ReadMissing else act.Connect name write scopes client moment ∷ [])
    connecting true name write scopes client = says (refused ReadMissing)
    connecting false name write scopes client = connects name write scopes client

    of_read : (read : Read Event) → P (read_acts Fresh moment read)
    of_read (Ok (event.Connect name write scopes client)) = connecting (not scopes.read) name (write && scopes.write) scopes client
    of_read (Ok (event.SubmitOp id submissions)) = says _
    of_read (Ok (event.GetDeltas from to)) = says _
    of_read (Ok (event.GetSummary asked)) = says _
    of_read (Ok (event.GetObject id)) = says _
    of_read (Ok (event.PutObject bytes)) = says _
    of_read (Err fault) = says _

pub length_ledger : (rs : List Raw) → length (ledger rs) ≡ length rs
unfolding raws
length_ledger rs = sym (length-map (ledger rs) (λ entry. entry.0)) ∙ ap length (ledger-raws rs)

behind_next : (n : ℕ) → number_behind n ≤ n + 1
behind_next n = omega (arith, min-le_left (n + 1) (2 ^ 64 - 1))

-- a document that is open, as a step finds it
pub record IsFound (w : World) (name : List ℕ) (d : Document) : Type 0 where
  pub open_is : is_open w name ≡ true
  pub is : d ≡ document w name

module _ (limits : Limits) (w : World) (d : Document) (c name : List ℕ) (scopes : Scopes) (detail : Tree) (moment : ℕ) (accepted : refusal_to_send (get w.names c) ≡ None) (found : IsFound w name d) where
  abbrev ending : Bool → ActEnd → Effect
  ending write end = effect_of c (behind_act c (found_by limits w.opened d (hearing_as w Fresh)) (act.Connect name write scopes detail moment) (hearing_as w Fresh) (ends end))

  abbrev ledger_found : Ledger
  ledger_found = ledger (d.raws ++ [])

  end_keeps : (write : Bool) (end : ActEnd) → Keeps w.store (ending write end).store
  end_keeps write end q b has = has

  stays_fresh : (write : Bool) (end : ActEnd) → connect_state name write Fresh end ≡ Fresh → EffectFits w (Some name) (ending write end)
  stays_fresh write end is = mere w (Some name) (ending write end) c Fresh accepted (end_keeps write end) (ap (λ v. Some (c, connection v)) is) tt refl

  found_is : ledger_found ≡ ledger_in w name
  found_is = ap ledger (append-nil d.raws ∙ ap (λ e. e.raws) found.is)

  fed : (e : Effect) (next : ℕ) → Keeps w.store e.store → next ≤ seq ledger_found + 1 → IsFed (changed e (Some name) w) name next
  fed e next keeps le =
      let grows = changed_grows e (Some name) w keeps in
      record {
        open_is = open_stays w (changed e (Some name) w) grows name found.open_is;
        within = omega (arith, le, ap seq found_is, seq_on w (changed e (Some name) w) grows name);
      }

  reads : EffectFits w (Some name) (ending false (Told (seq ledger_found)))
  reads =
      mere w (Some name) (ending false (Told (seq ledger_found))) c (Reading name (number_behind (seq ledger_found))) accepted (end_keeps false (Told (seq ledger_found))) refl
      (fed (ending false (Told (seq ledger_found))) (number_behind (seq ledger_found)) (end_keeps false (Told (seq ledger_found))) (behind_next (seq ledger_found))) refl

  new_length : (e : Effect) (raw : Raw) → e.entries ≡ raw ∷ [] → length (document (changed e (Some name) w) name).raws ≡ length (document w name).raws + 1
  new_length e raw is =
      ap (λ doc. length doc.raws) (document_own w.documents name (grown e (document w name))) ∙ length-append (document w name).raws e.entries
      ∙ ap (λ more. length (document w name).raws + length more) is

  place_is : length ledger_found ≡ length (document w name).raws
  place_is = length_ledger (d.raws ++ []) ∙ ap length (append-nil d.raws ∙ ap (λ e. e.raws) found.is)

  writes : (m : Message) → verdict ledger_found (join_of ledger_found scopes detail moment) ≡ Sequenced m
      → EffectFits w (Some name) (ending true (Joined (entry_name (length ledger_found)) m.number))
  writes m is =
      let e = ending true (Joined (entry_name (length ledger_found)) m.number) in
      let longer_by = new_length e (join_of ledger_found scopes detail moment) refl in
      let next = message-number ledger_found (join_of ledger_found scopes detail moment) m (verdict-is_message ledger_found (join_of ledger_found scopes detail moment) m is) in
      record {
        held = end_keeps true (Joined (entry_name (length ledger_found)) m.number);
        name = record {
          sound = (
            record {
              open_is = open_stays w (changed e (Some name) w) (changed_grows e (Some name) w (end_keeps true (Joined (entry_name (length ledger_found)) m.number))) name found.open_is;
              place = length ledger_found;
              below = omega (arith, longer_by, place_is);
              is = refl;
            },
            fed e m.number (end_keeps true (Joined (entry_name (length ledger_found)) m.number)) (omega (arith, next)),
          );
          goes_on = sends_on (get w.names c) (Writing name (entry_name (length ledger_found)) m.number) accepted;
          client = λ n id h.
              let same = some_same (name, entry_name (length ledger_found)) (n, id) h in
              let same_name : name ≡ n = ap (λ pair. pair.0) same in
              let same_id : entry_name (length ledger_found) ≡ id = ap (λ pair. pair.1) same in
              inr (subst (λ q. IsNewClient w (changed e (Some name) w) q id) same_name (record {
                place = length ledger_found;
                is = sym same_id;
                behind = omega (arith, place_is);
                below = omega (arith, longer_by, place_is);
              }));
        };
      }

  joins : (v : Verdict) → verdict ledger_found (join_of ledger_found scopes detail moment) ≡ v → EffectFits w (Some name) (ending true (joined_by (entry_name (length ledger_found)) v))
  joins (Sequenced m) is = writes m is
  joins (Nacked nack) is = stays_fresh true (Entered (Nacked nack)) refl
  joins Dropped is = stays_fresh true (Entered Dropped) refl
  joins Absorbed is = stays_fresh true (Entered Absorbed) refl

  join_ends : (full many : Bool) → EffectFits w (Some name) (ending true (if full then FullNow else if many then TooMany else joined_by (entry_name (length ledger_found)) (verdict ledger_found (join_of ledger_found scopes detail moment))))
  join_ends true many = stays_fresh true FullNow refl
  join_ends false true = stays_fresh true TooMany refl
  join_ends false false = joins (verdict ledger_found (join_of ledger_found scopes detail moment)) refl

  connecting : (write : Bool) → EffectFits w (Some name) (ending write (connect_end limits ledger_found write scopes detail moment))
  connecting true = join_ends _ _
  connecting false = reads

  pub within : (write beyond : Bool) → beyond ≡ false
      → EffectFits w (Some name) (ending write (if beyond then Given (refused TooManyDocuments) else connect_end limits ledger_found write scopes detail moment))
  within write true is = absurd (cc)
  within write false is = connecting write

-- where as many documents as may be are open, it stays fresh
fresh_beyond : (limits : Limits) (w : World) (about : Option (List ℕ)) (d : Document) (c name : List ℕ) (scopes : Scopes) (detail : Tree) (moment : ℕ) (other : ActEnd) → refusal_to_send (get w.names c) ≡ None
    → (write beyond : Bool) → beyond ≡ true
    → EffectFits w about (effect_of c (behind_act c (found_by limits w.opened d (hearing_as w Fresh)) (act.Connect name write scopes detail moment) (hearing_as w Fresh)
    (ends (if beyond then Given (refused TooManyDocuments) else other))))
fresh_beyond limits w about d c name scopes detail moment other accepted true true is = mere w about _ c Fresh accepted (keeps_self w.store) refl tt refl
fresh_beyond limits w about d c name scopes detail moment other accepted false true is = mere w about _ c Fresh accepted (keeps_self w.store) refl tt refl
fresh_beyond limits w about d c name scopes detail moment other accepted write false is = absurd (cc)

-- the document that a text reaches is open, and the step is about it; or as many as may be are open
abbrev pub IsReady : World → (about reached : Option (List ℕ)) → Document → Type 0
IsReady w about None d = Unit {0}
IsReady w about (Some name) d = ((about ≡ Some name) × IsFound w name d) ⊎ (is_beyond w.opened name ≡ true)

abbrev reached_by : List Act → VoiceState → Option (List ℕ)
reached_by acts s = option_or (slice_get (filter_map connects acts) 0) (states.document_name s)

not_beyond : (w : World) (name : List ℕ) → is_open w name ≡ true → is_beyond w.opened name ≡ false
not_beyond w name h = ap (λ b. not b && nat_le 1024 (length w.opened)) h

connect_fits : (limits : Limits) (w : World) (about : Option (List ℕ)) (d : Document) (c name : List ℕ) (write : Bool) (scopes : Scopes) (client : Tree) (moment : ℕ) → refusal_to_send (get w.names c) ≡ None
    → IsReady w about (Some name) d → EffectFits w about (effect_of c (hear limits w.opened c d (hearing_as w Fresh) (act.Connect name write scopes client moment ∷ [])))
connect_fits limits w about d c name write scopes client moment accepted (inl ready) =
    subst (λ o. EffectFits w o (effect_of c (hear limits w.opened c d (hearing_as w Fresh) (act.Connect name write scopes client moment ∷ [])))) (sym ready.0)
    (within limits w d c name scopes client moment accepted ready.1 write (is_beyond w.opened name) (not_beyond w name ready.1.open_is))
connect_fits limits w about d c name write scopes client moment accepted (inr beyond) =
    fresh_beyond limits w about d c name scopes client moment (connect_end limits (ledger (d.raws ++ [])) write scopes client moment) accepted write (is_beyond w.opened name) beyond

fresh_sends : (limits : Limits) (w : World) (about : Option (List ℕ)) (d : Document) (c text : List ℕ) → refusal_to_send (get w.names c) ≡ None
    → IsReady w about (reached_by (acts_of Fresh text w.moment) Fresh) d → EffectFits w about (sent_as limits w d c text Fresh)
fresh_sends limits w about d c text accepted =
    fresh_acts (λ acts. IsReady w about (reached_by acts Fresh) d → EffectFits w about (effect_of c (hear limits w.opened c d (hearing_as w Fresh) acts))) text w.moment
    (λ reply ready. mere w about _ c Fresh accepted (keeps_self w.store) refl tt refl)
    (λ name write scopes client ready. connect_fits limits w about d c name write scopes client w.moment accepted ready)

pub send_fits : (limits : Limits) (w : World) (about : Option (List ℕ)) (d : Document) (c text : List ℕ) → IsSound w → refusal_to_send (get w.names c) ≡ None
    → IsReady w about (sent_to w c text) d → EffectFits w about (sent limits w d c text)
send_fits limits w about d c text sound accepted ready = by (get w.names c) refl accepted
  where
    from : (s : VoiceState) → voice_of w c ≡ s → (IsReady w about (reached_by (acts_of s text w.moment) s) d → EffectFits w about (sent_as limits w d c text s)) → EffectFits w about (sent limits w d c text)
    from s is fits =
        subst (λ v. EffectFits w about (sent_as limits w d c text v)) (sym is) (fits (subst (λ v. IsReady w about (reached_by (acts_of v text w.moment) v) d) is ready))

    by : (o : Option Name) → get w.names c ≡ o → refusal_to_send o ≡ None → EffectFits w about (sent limits w d c text)
    by None is ok = from Fresh (ap voice_named is) (fresh_sends limits w about d c text accepted)
    by (Some (connection Fresh)) is ok = from Fresh (ap voice_named is) (fresh_sends limits w about d c text accepted)
    by (Some (connection (Reading name next))) is ok =
        from (Reading name next) (ap voice_named is) (λ _. connected_sends limits w about d c text (Reading name next) sound is refl)
    by (Some (connection (Writing name id next))) is ok =
        from (Writing name id next) (ap voice_named is) (λ _. connected_sends limits w about d c text (Writing name id next) sound is refl)
    by (Some (connection Used)) is ok = absurd (subst (λ o. IfSome o (IsSoundName w)) is (sound.names c))
    by (Some (container k)) is ok = absurd (cc)
    by (Some (roamer k)) is ok = absurd (cc)
    by (Some used_up) is ok = absurd (cc)
