-- What the other steps of connections and containers do to a sound world.
use Rattle.std.proofs.Common.{◌≡◌, inl, inr, ℕ, ◌+◌, ◌≤◌, arith, Bool, true, false, if◌then◌else◌, List, [], ◌∷◌, ◌++◌, length, take, drop, Option, Some, None, Result, Ok, Err, refl, sym, ap, subst, ap₂, ◌∙◌, length-append}
use Rattle.std.specs.Prelude.{nat_le, nat_lt, max, is_some, IfSome}
use Rattle.std.specs.Option.{option_map}
use Rattle.std.specs.FinMap.{get}
use Rattle.std.proofs.lemmas.List.{take-append-drop}
use Rattle.std.proofs.Math.Nat.{max-le}
use Rattle.std.proofs.Math.Seq.{take-length}
use Rattle.fluid_json.specs.Tree.{Tree, null}
use Rattle.fluid_types.specs.declared.entries.Offered.TheVariants.{Op, Noop}
use Rattle.fluid_types.specs.declared.entries.Raw.{Raw}
use Rattle.fluid_types.specs.declared.messages.Message.{Message}
use Rattle.fluid_types.specs.declared.nacks.NackRule.{NackRule}
use Rattle.fluid_types.specs.Ledger.{Ledger, order, seq}
use Rattle.fluid_types.specs.Names.{entry_name}
use Rattle.fluid_tree.specs.declared.id.SummaryRef.{SummaryRef}
use Rattle.fluid_rules.specs.Rules.{ledger}
use Rattle.fluid_rules.specs.Scribe.{last_ack, number_of}
use Rattle.fluid_rules.specs.declared.limits.Limits.{Limits}
use Rattle.fluid_rules.proofs.Joined.{some_same}
use Rattle.fluid_rules.proofs.Legal.{ledger-legal}
use Rattle.fluid_scribe.proofs.Sequenced.{AreSequenced}
use Rattle.fluid_scribe.specs.declared.job.Job.{Job}
use Rattle.fluid_edits.specs.declared.edit.Edit.{Edit}
use Rattle.fluid_edits.specs.Replay.{Channels, no_channels}
use Rattle.fluid_runtime.specs.Refused.{answer}
use Rattle.fluid_runtime.specs.declared.fault.EditFault.{EditFault}
use Rattle.fluid_store.specs.Held.{Keeps}
use Rattle.fluid_store.specs.Putting.{Putting, Clashing, putting}
use Rattle.fluid_store.specs.Listed.{objects}
use Rattle.fluid_runtime.specs.AppTree.{app_tree}
use Rattle.fluid_loader.specs.Link.{picked}
use Rattle.fluid_loader.specs.Version.{AVersion, version_at}
use Rattle.fluid_loader.specs.declared.link.Pick.{Pick}
use Rattle.fluid_loader.specs.declared.link.Pick.TheVariants.{Empty, Latest, Handle}
use Rattle.fluid_voice.specs.declared.states.VoiceState.{VoiceState}
use Rattle.fluid_voice.specs.declared.states.VoiceState.TheVariants.{Fresh, Reading, Writing, Used}
use Rattle.fluid_voice.specs.declared.refusals.ConnectRefusal.{ConnectRefusal}
use Rattle.fluid_voice.specs.States as states
use Rattle.fluid_transcript.specs.World.{Document, Container, Name, connection, container, roamer, used_up, World, document, ledger_of, with_entries, Effect, says, grown, changed}
use Rattle.fluid_transcript.specs.Connections.{voice_named, delivered, closed}
use Rattle.fluid_versions.specs.Versions.{is_found}
use Rattle.fluid_transcript.specs.Documents.{scribed_by, objects_for, reported, checkpointed, checkpoint_of, swept_by}
use Rattle.fluid_transcript.specs.Containers.{channels, Submitted, submitted, submitting, proposed, Loading, join_for, joining, join_refusal, name_for, load_line, begun_with, begun_from, begun_at, loading_by, load, caught_up, pumped, edited_by, edited, beaten, summarized_by, summarized, visible}
use Rattle.fluid_transcript.specs.Lines.{stored_line, full_line, large_line, edited_line, beat_line, summarized_line}
use Rattle.fluid_transcript.specs.Steps.{refusal_as_connection, refusal_as_new}
use Rattle.fluid_transcript.specs.Sound.{GoesOnAs, IsSameContainer, client_in, ledger_in, IsFed, IsSoundVoice, IsAcknowledged, IsSoundContainer, IsSoundName, IsSound}
use Rattle.fluid_transcript.proofs.Sounds.{open_stays, document_own, changed_grows, client_stays, fed_stays, container_stays, IsNewClient, NamesFit, EffectFits}
use Rattle.fluid_transcript.proofs.Fitting.{putting_keeps, plain, keeps_self, IsFound}
use Rattle.fluid_transcript.proofs.Acks.{acknowledged_below, order_sequenced, acknowledged_on, last_acknowledged, handle_acknowledged}

-- ---- documents

reported_fits : (w : World) (about : Option (List ℕ)) (l : Ledger) (d : List ℕ) (j : Job) (found : Bool) (p : Putting) (clash : Option Clashing) → Keeps w.store p.held
    → EffectFits w about (reported w l d j found p clash)
reported_fits w about l d j found p None keeps = plain w about (reported w l d j found p None) refl keeps
reported_fits w about l d j found p (Some clash) keeps = plain w about (reported w l d j found p (Some clash)) refl keeps

pub scribe_fits : (w : World) (about : Option (List ℕ)) (l : Ledger) (d : List ℕ) (j : Option Job) → EffectFits w about (scribed_by w l d j)
scribe_fits w about l d None = plain w about (scribed_by w l d None) refl (keeps_self w.store)
scribe_fits w about l d (Some j) =
    reported_fits w about l d j (is_found w.store j) (putting w.store (objects_for l (is_found w.store j) j)) _ (putting_keeps w.store (objects_for l (is_found w.store j) j))

pub checkpoint_fits : (limits : Limits) (w : World) (about : Option (List ℕ)) (d : Document) (name : List ℕ) → EffectFits w about (checkpointed limits w d name)
checkpoint_fits limits w about d name = by (nat_le limits.checkpoints (length d.checkpoints)) (nat_lt limits.bytes (length (checkpoint_of (ledger_of d))))
  where
    by : (full large : Bool) → EffectFits w about (if full then says w (full_line name ∷ []) else (if large then says w (large_line name (length (checkpoint_of (ledger_of d))) ∷ [])
        else record (says w (stored_line name (length d.checkpoints) (length d.raws) ∷ [])) { checkpoints = length d.raws ∷ [] }))
    by true large = plain w about _ refl (keeps_self w.store)
    by false true = plain w about _ refl (keeps_self w.store)
    by false false = plain w about _ refl (keeps_self w.store)

pub sweep_fits : (w : World) (about : Option (List ℕ)) (name : List ℕ) (silent : Option (List ℕ)) → EffectFits w about (swept_by w name silent)
sweep_fits w about name None = plain w about (swept_by w name None) refl (keeps_self w.store)
sweep_fits w about name (Some id) = plain w about (swept_by w name (Some id)) refl (keeps_self w.store)

-- ---- collect, close

-- the document that is meant is open, as it is found
abbrev pub AreFound : World → Option (List ℕ) → Document → Type 0
AreFound w None d = Unit {0}
AreFound w (Some name) d = IsFound w name d

module _ (w : World) (c : List ℕ) where
  -- the same connection with another next number
  moved : (about : Option (List ℕ)) (e : Effect) (old new : VoiceState) → get w.names c ≡ Some (connection old) → Keeps w.store e.store → e.name ≡ Some (c, connection new)
      → IsSoundVoice (changed e about w) new → client_in (Some (connection new)) ≡ client_in (Some (connection old)) → EffectFits w about e
  moved about e old new there keeps is sound same = record {
    held = keeps;
    name = subst (NamesFit w (changed e about w)) (sym is) (record {
      sound = sound;
      goes_on = subst (λ o. GoesOnAs o (Some (connection new))) (sym there) tt;
      client = λ name id h. inl (ap client_in there ∙ sym same ∙ h);
    });
  }

  fed_more : (about : Option (List ℕ)) (e : Effect) (name : List ℕ) (next : ℕ) (d : Document) → Keeps w.store e.store → IsFound w name d → IsFed w name next
      → IsFed (changed e about w) name (max next (length (order (ledger_of d)) + 1))
  unfolding seq
  fed_more about e name next d keeps found fed =
      fed_stays w (changed e about w) (changed_grows e about w keeps) name (max next (length (order (ledger_of d)) + 1))
      (record { open_is = found.open_is; within = max-le fed.within (omega (arith, ap (λ doc. length (order (ledger_of doc))) found.is)) })

  pub collect_fits : (d : Document) (o : Option Name) → get w.names c ≡ o → refusal_as_connection o ≡ None → IsSound w → AreFound w (states.document_name (voice_named o)) d
      → EffectFits w (states.document_name (voice_named o)) (delivered w (ledger_of d) c (voice_named o))
  collect_fits d None is ok sound found = absurd (cc)
  collect_fits d (Some (connection Fresh)) is ok sound found = moved None (delivered w (ledger_of d) c Fresh) Fresh Fresh is (keeps_self w.store) refl tt refl
  collect_fits d (Some (connection (Reading name next))) is ok sound found =
      moved (Some name) (delivered w (ledger_of d) c (Reading name next)) (Reading name next) (Reading name (max next (length (order (ledger_of d)) + 1))) is (keeps_self w.store) refl
      (fed_more (Some name) (delivered w (ledger_of d) c (Reading name next)) name next d (keeps_self w.store) found (subst (λ o. IfSome o (IsSoundName w)) is (sound.names c))) refl
  collect_fits d (Some (connection (Writing name id next))) is ok sound found =
      let was = subst (λ o. IfSome o (IsSoundName w)) is (sound.names c) in
      let e = delivered w (ledger_of d) c (Writing name id next) in
      moved (Some name) e (Writing name id next) (Writing name id (max next (length (order (ledger_of d)) + 1))) is (keeps_self w.store) refl
      (client_stays w (changed e (Some name) w) (changed_grows e (Some name) w (keeps_self w.store)) name id was.0, fed_more (Some name) e name next d (keeps_self w.store) found was.1) refl
  collect_fits d (Some (connection Used)) is ok sound found = absurd (subst (λ o. IfSome o (IsSoundName w)) is (sound.names c))
  collect_fits d (Some (container k)) is ok sound found = absurd (cc)
  collect_fits d (Some (roamer k)) is ok sound found = absurd (cc)
  collect_fits d (Some used_up) is ok sound found = absurd (cc)

  ends_on : (o : Option Name) → refusal_as_connection o ≡ None → GoesOnAs o (Some used_up)
  ends_on None ok = tt
  ends_on (Some (connection voice)) ok = tt
  ends_on (Some (container k)) ok = absurd (cc)
  ends_on (Some (roamer k)) ok = absurd (cc)
  ends_on (Some used_up) ok = absurd (cc)

  pub close_fits : (about : Option (List ℕ)) → refusal_as_connection (get w.names c) ≡ None → EffectFits w about (closed w c)
  close_fits about ok = record {
    held = keeps_self w.store;
    name = record { sound = tt; goes_on = ends_on (get w.names c) ok; client = λ name id h. absurd (cc) };
  }

-- ---- load

pub new_on : (o : Option Name) (n : Name) → refusal_as_new o ≡ None → GoesOnAs o (Some n)
new_on None n ok = tt
new_on (Some old) n ok = absurd (cc)

pub used_fits : (w : World) (about : Option (List ℕ)) (e : Effect) (p : List ℕ) → refusal_as_new (get w.names p) ≡ None → Keeps w.store e.store → e.name ≡ Some (p, used_up) → EffectFits w about e
used_fits w about e p ok keeps is = record {
  held = keeps;
  name = subst (NamesFit w (changed e about w)) (sym is) (record { sound = tt; goes_on = new_on (get w.names p) used_up ok; client = λ name id h. absurd (cc) });
}

pub whole_order : (l : Ledger) → take (seq l) (order l) ≡ order l
unfolding seq
whole_order l = take-length (order l)

seq_length : (l : Ledger) → seq l ≡ length (order l)
unfolding seq
seq_length l = refl

module _ (w : World) (d : Document) (p name : List ℕ) (ok : refusal_as_new (get w.names p) ≡ None) (found : IsFound w name d) where
  abbrev joining_raws : List Raw
  joining_raws = join_for w (ledger_of d) ∷ []

  abbrev joined_ledger : Ledger
  joined_ledger = ledger_of (with_entries joining_raws d)

  -- a container that begins with an acknowledged summary
  begun_fits : (e : Effect) (from : Channels) (base : ℕ) → Keeps w.store e.store → e.entries ≡ joining_raws → IsAcknowledged (order joined_ledger) base
      → e.name ≡ Some (p, container (record { document = name; entries = length d.raws; from = from; base = base; number = seq joined_ledger; pending = [] })) → EffectFits w (Some name) e
  begun_fits e from base keeps entries acked is =
      let new = changed e (Some name) w in
      let raws_are : (document new name).raws ≡ d.raws ++ joining_raws =
      ap (λ doc. doc.raws) (document_own w.documents name (grown e (document w name))) ∙ ap (λ more. (document w name).raws ++ more) entries ∙ ap (λ doc. doc.raws ++ joining_raws) (sym found.is) in
      let ledger_is : ledger_in new name ≡ joined_ledger = ap ledger raws_are in
      let long : length (document new name).raws ≡ length d.raws + 1 = ap length raws_are ∙ length-append d.raws joining_raws in
      record {
        held = keeps;
        name = subst (NamesFit w new) (sym is) (record {
          sound = record {
            open_is = open_stays w new (changed_grows e (Some name) w keeps) name found.open_is;
            entries = omega (arith, long);
            base = omega (arith, seq_length joined_ledger, acknowledged_below (order joined_ledger) base (subst (AreSequenced 0 0) (whole_order joined_ledger) (order_sequenced joined_ledger (seq joined_ledger) (ledger-legal (d.raws ++ joining_raws)))) acked);
            number = omega (arith, ap seq ledger_is);
            acknowledged = subst (λ l. IsAcknowledged (take (seq joined_ledger) (order l)) base) (sym ledger_is) (subst (λ ms. IsAcknowledged ms base) (sym (whole_order joined_ledger)) acked);
          };
          goes_on = new_on (get w.names p) _ ok;
          client = λ n id h.
              let same = some_same (name, entry_name (length d.raws)) (n, id) h in
              let same_name : name ≡ n = ap (λ pair. pair.0) same in
              let same_id : entry_name (length d.raws) ≡ id = ap (λ pair. pair.1) same in
              inr (subst (λ q. IsNewClient w new q id) same_name (record {
                place = length d.raws;
                is = sym same_id;
                behind = omega (arith, ap (λ doc. length doc.raws) found.is);
                below = omega (arith, long);
              }));
        });
      }

  abbrev loaded_with : Loading → Effect
  loaded_with l = record (says w (load_line p name l ∷ [])) { entries = joining_raws; name = Some (p, name_for l) }

  from_version : (base : ℕ) (version : Result AVersion (List ℕ)) → IsAcknowledged (order joined_ledger) base → EffectFits w (Some name) (loaded_with (begun_with name (length d.raws) joined_ledger base version))
  from_version base (Ok version) acked = begun_fits (loaded_with (begun_with name (length d.raws) joined_ledger base (Ok version))) version.channels base (keeps_self w.store) refl acked refl
  from_version base (Err path) acked = used_fits w (Some name) (loaded_with (begun_with name (length d.raws) joined_ledger base (Err path))) p ok (keeps_self w.store) refl

  from_summary : (summary : Option SummaryRef) → IfSome summary (λ s. IsAcknowledged (order joined_ledger) s.number) → EffectFits w (Some name) (loaded_with (begun_from w.store name (length d.raws) joined_ledger summary))
  from_summary None acked = used_fits w (Some name) (loaded_with (begun_from w.store name (length d.raws) joined_ledger None)) p ok (keeps_self w.store) refl
  from_summary (Some s) acked = from_version s.number (version_at w.store s) acked

  latest_acked : (order : List Message) (found : Option SummaryRef) → last_ack order ≡ found → IfSome found (λ s. IsAcknowledged order s.number)
  latest_acked order None is = tt
  latest_acked order (Some s) is = last_acknowledged order s is

  handle_acked : (order : List Message) (handle : List ℕ) (number : Option ℕ) → number_of order handle ≡ number
      → IfSome (option_map (λ number. record { handle = handle; number = number }) number) (λ (s : SummaryRef). IsAcknowledged order s.number)
  handle_acked order handle None is = tt
  handle_acked order handle (Some number) is = handle_acknowledged order handle number is

  picks_fit : (pick : Pick) → EffectFits w (Some name) (loaded_with (begun_at w.store name (length d.raws) joined_ledger pick))
  picks_fit Empty = begun_fits (loaded_with (begun_at w.store name (length d.raws) joined_ledger Empty)) no_channels 0 (keeps_self w.store) refl (inl refl) refl
  picks_fit Latest = from_summary (picked Latest (order joined_ledger)) (latest_acked (order joined_ledger) (last_ack (order joined_ledger)) refl)
  picks_fit (Handle handle) = from_summary (picked (Handle handle) (order joined_ledger)) (handle_acked (order joined_ledger) handle (number_of (order joined_ledger) handle) refl)

  load_by : (pick : Pick) (refusal : Option ConnectRefusal) → EffectFits w (Some name) (record (says w (load_line p name (loading_by w d name pick refusal) ∷ []))
      { entries = if is_some refusal then [] else joining_raws; name = Some (p, name_for (loading_by w d name pick refusal)) })
  load_by pick None = picks_fit pick
  load_by pick (Some refusal) = used_fits w (Some name) _ p ok (keeps_self w.store) refl

  pub load_fits : (limits : Limits) (pick : Pick) → EffectFits w (Some name) (load limits w d p name pick)
  load_fits limits pick = load_by pick (join_refusal (joining limits w (ledger_of d)))

-- ---- steps of a container

module _ (w : World) (p : List ℕ) (k : Container) (sound : IsSound w) (there : get w.names p ≡ Some (container k)) where
  is_sound : IsSoundContainer w k
  is_sound = subst (λ o. IfSome o (IsSoundName w)) there (sound.names p)

  -- the same container with a number that is no less, and other edits on their way
  goes_on : (about : Option (List ℕ)) (e : Effect) (later : Container) → Keeps w.store e.store → e.name ≡ Some (p, container later) → IsSameContainer k later → IsSoundContainer w later
      → EffectFits w about e
  goes_on about e later keeps is same ok = record {
    held = keeps;
    name = subst (NamesFit w (changed e about w)) (sym is) (record {
      sound = container_stays w (changed e about w) (changed_grows e about w keeps) later ok;
      goes_on = subst (λ o. GoesOnAs o (Some (container later))) (sym there) same;
      client = λ name id h. inl (ap client_in there ∙ ap₂ (λ n i. Some (n, entry_name i)) (sym same.document) (sym same.entries) ∙ h);
    });
  }

  same_as : (later : Container) → later ≡ record k { pending = later.pending } → IsSameContainer k later × IsSoundContainer w later
  same_as later is = (
    subst (λ c. IsSameContainer k c) (sym is) (record { document = refl; entries = refl; from = refl; base = refl; number = omega arith }),
    subst (λ c. IsSoundContainer w c) (sym is) (record { open_is = is_sound.open_is; entries = is_sound.entries; base = is_sound.base; number = is_sound.number; acknowledged = is_sound.acknowledged }),
  )

  submits : (about : Option (List ℕ)) (e : Effect) (after : Container) (line : List ℕ) (s : Submitted) (refused : Option NackRule) → s.refused ≡ refused → after ≡ record k { pending = after.pending }
      → Keeps w.store e.store → e.name ≡ (submitted w p k after line s).name → EffectFits w about e
  submits about e after line s None is same keeps named =
      goes_on about e after keeps (named ∙ rw is refl) (same_as after same).0 (same_as after same).1
  submits about e after line s (Some rule) is same keeps named =
      goes_on about e k keeps (named ∙ rw is refl) (same_as k refl).0 (same_as k refl).1

  pub pump_fits : (d : Document) → IsFound w k.document d → EffectFits w (Some k.document) (pumped w d p k)
  pump_fits d found =
      let further : k.number ≤ seq (ledger_of d) = omega (arith, is_sound.number, ap (λ doc. seq (ledger_of doc)) found.is) in
      let all : IsAcknowledged (take k.number (order (ledger_of d))) k.base = subst (λ doc. IsAcknowledged (take k.number (order (ledger_of doc))) k.base) (sym found.is) is_sound.acknowledged in
      goes_on (Some k.document) (pumped w d p k) (caught_up (ledger_of d) k) (keeps_self w.store) refl
      (record { document = refl; entries = refl; from = refl; base = refl; number = further })
      (record {
        open_is = is_sound.open_is;
        entries = is_sound.entries;
        base = omega (arith, is_sound.base, further);
        number = omega (arith, ap (λ doc. seq (ledger_of doc)) found.is);
        acknowledged =
            subst (λ l. IsAcknowledged (take (seq (ledger_of d)) (order l)) k.base) (ap ledger_of found.is)
            (subst (λ ms. IsAcknowledged ms k.base) (take-append-drop k.number (order (ledger_of d)) ∙ sym (whole_order (ledger_of d)))
            (acknowledged_on (take k.number (order (ledger_of d))) (drop k.number (order (ledger_of d))) k.base all));
      })

  edit_by : (limits : Limits) (about : Option (List ℕ)) (l : Ledger) (edit : Edit) (contents : Result Tree EditFault) → EffectFits w about (edited_by limits w l p k edit contents)
  edit_by limits about l edit (Err fault) = plain w about (edited_by limits w l p k edit (Err fault)) refl (keeps_self w.store)
  edit_by limits about l edit (Ok contents) = submits about (edited_by limits w l p k edit (Ok contents)) (record k { pending = k.pending ++ edit ∷ [] }) (edited_line p) (submitting limits w l k Op contents) _ refl refl (keeps_self w.store) refl

  pub edit_fits : (limits : Limits) (about : Option (List ℕ)) (d : Document) (edit : Edit) → EffectFits w about (edited limits w d p k edit)
  edit_fits limits about d edit = edit_by limits about (ledger_of d) edit (answer (visible (ledger_of d) k) edit)

  pub beat_fits : (limits : Limits) (about : Option (List ℕ)) (d : Document) → EffectFits w about (beaten limits w d p k)
  beat_fits limits about d = submits about (beaten limits w d p k) k (beat_line p k.number) (submitting limits w (ledger_of d) k Noop null) _ refl refl (keeps_self w.store) refl

  summarize_by : (limits : Limits) (about : Option (List ℕ)) (l : Ledger) (put : Putting) (clash : Option Clashing) → Keeps w.store put.held → EffectFits w about (summarized_by limits w l p k put clash)
  summarize_by limits about l put None keeps = submits about (summarized_by limits w l p k put None) k (summarized_line p k.number) (proposed limits w l k) _ refl refl keeps refl
  summarize_by limits about l put (Some clash) keeps = plain w about (summarized_by limits w l p k put (Some clash)) refl keeps

  pub summarize_fits : (limits : Limits) (about : Option (List ℕ)) (d : Document) → EffectFits w about (summarized limits w d p k)
  summarize_fits limits about d =
      summarize_by limits about (ledger_of d) (putting w.store (objects (app_tree (channels (ledger_of d) k)))) _ (putting_keeps w.store (objects (app_tree (channels (ledger_of d) k))))
