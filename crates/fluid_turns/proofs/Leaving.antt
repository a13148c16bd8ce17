-- A client's submission leaves all names.
use Rattle.std.proofs.Common.{◌≡◌, inl, ℕ, ◌≤◌, ◌^◌, arith, Bool, true, false, cond, if◌then◌else◌, List, [], ◌∷◌, ◌++◌, length, Option, Some, None, bytes_eq, refl, sym, ap, subst, ◌∙◌, append-nil}
use Rattle.std.specs.Prelude.{IfSome}
use Rattle.std.specs.FinMap.{get}
use Rattle.std.proofs.lemmas.List.Elements.{All-nil, All-cons}
use Rattle.std.proofs.lemmas.Slice.Eq.{bytes_eq-Decides}
use Rattle.fluid_table.proofs.Places.{get_inserted}
use Rattle.fluid_types.specs.declared.entries.Raw.{Raw}
use Rattle.fluid_types.specs.declared.entries.Raw.TheVariants.{Submit}
use Rattle.fluid_types.specs.declared.entries.Submission.{Submission}
use Rattle.fluid_rules.specs.Rules.{verdict, ledger}
use Rattle.fluid_rules.specs.declared.limits.Limits.{Limits}
use Rattle.fluid_store.specs.Held.{Keeps}
use Rattle.fluid_voice.specs.declared.states.VoiceState.{VoiceState}
use Rattle.fluid_voice.specs.declared.states.VoiceState.TheVariants.{Fresh, Reading, Writing, Used}
use Rattle.fluid_voice.specs.declared.ends.ActEnd.{ActEnd}
use Rattle.fluid_voice.specs.declared.ends.ActEnd.TheVariants.{Entered, FullNow}
use Rattle.fluid_voice.specs.Ends.{entry_end}
use Rattle.fluid_rules.specs.Counted.{is_full}
use Rattle.fluid_transcript.specs.World.{Container, Roamer, Name, connection, container, roamer, used_up, World, Document, document, ledger_of, Effect, grown, changed}
use Rattle.fluid_transcript.specs.Containers.{id_of}
use Rattle.fluid_transcript.specs.Connections.{voice_named, voice_of}
use Rattle.fluid_transcript.specs.Sound.{ledger_in, client_in, GoesOnAs, IsSoundName, IsSound}
use Rattle.fluid_transcript.proofs.Begins.{ledger_more}
use Rattle.fluid_transcript.proofs.Sounds.{document_inserted, document_own, changed_grows, voice_stays, longer, NamesFit, EffectFits, StepLeaves, fitting_leaves}
use Rattle.fluid_holding.specs.Holding.{is_made_by}
use Rattle.fluid_beside.specs.Beside.{GoesOnBeside}
use Rattle.fluid_workload.specs.Working.{work, named, id_at, behind_entry}
use Rattle.fluid_turns.specs.Leaving.{LeavesAll, SubmissionsLeaveAll}
use Rattle.fluid_turns.proofs.Lanes.{heard_so, entry_is}

-- ---- who submits

-- a connection that writes to the document
writes_so : (v : VoiceState) (id : List ℕ) → id_at v ≡ Some id → (next : ℕ) × (v ≡ Writing work id next)
writes_so Fresh id is = absurd (cc)
writes_so (Reading name next) id is = absurd (cc)
writes_so (Writing name own next) id is = by (bytes_eq name work) refl is
  where
    by : (b : Bool) → bytes_eq name work ≡ b → (if b then Some own else None) ≡ Some id → (next' : ℕ) × (Writing name own next ≡ Writing work id next')
    by true same there = let e : own ≡ id = cc in (next, ap (λ n. Writing n own next) ((bytes_eq-Decides name work).0 same) ∙ ap (λ i. Writing work i next) e)
    by false other there = absurd (cc)
writes_so Used id is = absurd (cc)

-- has its name
there_so : (o : Option Name) (id : List ℕ) → id_at (voice_named o) ≡ Some id → o ≡ Some (connection (voice_named o))
there_so None id is = absurd (cc)
there_so (Some (connection v)) id is = refl
there_so (Some (container k)) id is = absurd (cc)
there_so (Some (roamer k)) id is = absurd (cc)
there_so (Some used_up) id is = absurd (cc)

-- one that is connected stays where it stands
same_voice : (w : World) (about : Option (List ℕ)) (e : Effect) (c : List ℕ) (v : VoiceState) → IsSound w → get w.names c ≡ Some (connection v) → Keeps w.store e.store
    → e.name ≡ Some (c, connection v) → EffectFits w about e
same_voice w about e c v sound there keeps is = record {
  held = keeps;
  name = subst (NamesFit w (changed e about w)) (sym is) (record {
    sound = voice_stays w (changed e about w) (changed_grows e about w keeps) v (subst (λ o. IfSome o (IsSoundName w)) there (sound.names c));
    goes_on = subst (λ o. GoesOnAs o (Some (connection v))) (sym there) tt;
    client = λ name id h. inl (ap client_in there ∙ h);
  });
}

-- ---- what is entered

-- at most this entry
data Added (raw : Raw) (more : List Raw) : Type 0 where
  nothing : more ≡ [] → Added raw more
  one : more ≡ raw ∷ [] → Added raw more

goes_beside : (own : List ℕ) (rs : List Raw) (raw : Raw) (more : List Raw) → is_made_by own raw ≡ false → Added raw more → GoesOnBeside own (ledger rs) (ledger (rs ++ more))
goes_beside own rs raw more other (nothing is) = record {
  more = [];
  is = ap (λ m. ledger (rs ++ m)) is ∙ ap ledger (append-nil rs) ∙ sym (append-nil (ledger rs));
  beside = All-nil (λ entry. is_made_by own entry.0 ≡ false);
}
goes_beside own rs raw more other (one is) = record {
  more = (raw, verdict (ledger rs) raw) ∷ [];
  is = ap (λ m. ledger (rs ++ m)) is ∙ ledger_more rs (raw ∷ []);
  beside = All-cons (λ entry. is_made_by own entry.0 ≡ false) (raw, verdict (ledger rs) raw) [] other (All-nil (λ entry. is_made_by own entry.0 ≡ false));
}

module _ (limits : Limits) (w : World) (client : ℕ) (id : List ℕ) (s : Submission) (moment : ℕ) (sound : IsSound w) (is : id_at (voice_of w (named client)) ≡ Some id) where
  abbrev raw : Raw
  raw = Submit id s moment

  abbrev d : Document
  d = document w work

  abbrev out : ActEnd
  out = entry_end limits (ledger_of d) raw

  abbrev e : Effect
  e = heard_so limits w client raw out

  abbrev new : World
  new = changed e (Some work) w

  there : get w.names (named client) ≡ Some (connection (voice_of w (named client)))
  there = there_so (get w.names (named client)) id is

  leaves : StepLeaves w new
  leaves = fitting_leaves w (Some work) e sound (same_voice w (Some work) e (named client) (voice_of w (named client)) sound there (λ q bytes has. has) refl)

  name_stays : (q : List ℕ) → get new.names q ≡ get w.names q
  name_stays q = get_inserted w.names (named client) (connection (voice_of w (named client))) q ∙ by (bytes_eq q (named client)) refl
    where
      by : (b : Bool) → bytes_eq q (named client) ≡ b → cond b (Some (connection (voice_of w (named client)))) (get w.names q) ≡ get w.names q
      by true same = sym (ap (get w.names) ((bytes_eq-Decides q (named client)).0 same) ∙ there)
      by false other = refl

  added : Added raw e.entries
  added = by (is_full limits.entries (ledger_of d) raw) refl
    where
      by : (b : Bool) → is_full limits.entries (ledger_of d) raw ≡ b → Added raw e.entries
      by true full = nothing (ap (λ (o : ActEnd). (heard_so limits w client raw o).entries) (ap (λ b. if b then FullNow else Entered (verdict (ledger_of d) raw)) full))
      by false free = one (ap (λ (o : ActEnd). (heard_so limits w client raw o).entries) (ap (λ b. if b then FullNow else Entered (verdict (ledger_of d) raw)) free))

  -- the client of a container or a roamer is another one
  other_client : (q : List ℕ) (k : Container) → client_in (get w.names q) ≡ Some (k.document, id_of k) → (named client ≡ q → ⊥) → k.document ≡ work → length (document w work).raws ≤ 2 ^ 64 → bytes_eq id (id_of k) ≡ false
  other_client q k held apart at few = by (bytes_eq id (id_of k)) refl
    where
      by : (b : Bool) → bytes_eq id (id_of k) ≡ b → bytes_eq id (id_of k) ≡ false
      by false other = other
      by true same =
          let writes = writes_so (voice_of w (named client)) id is in
          let mine : client_in (get w.names (named client)) ≡ Some (work, id) = ap client_in there ∙ ap (λ v. client_in (Some (connection v))) writes.1 in
          let its : client_in (get w.names q) ≡ Some (work, id) =
          held ∙ ap (λ name. Some (name, id_of k)) at ∙ ap (λ i. Some (work, i)) (sym ((bytes_eq-Decides id (id_of k)).0 same)) in
          absurd (apart (sound.apart (named client) q work id mine its few))

  beside : (q : List ℕ) (k : Container) → client_in (get w.names q) ≡ Some (k.document, id_of k) → (named client ≡ q → ⊥) → length (document new k.document).raws ≤ 2 ^ 64 → GoesOnBeside (id_of k) (ledger_in w k.document) (ledger_in new k.document)
  beside q k held apart few = by (bytes_eq k.document work) refl
    where
      by : (b : Bool) → bytes_eq k.document work ≡ b → GoesOnBeside (id_of k) (ledger_in w k.document) (ledger_in new k.document)
      by true same =
          let at : k.document ≡ work = (bytes_eq-Decides k.document work).0 same in
          let own : document new work ≡ grown e d = document_own w.documents work (grown e d) in
          let within : length d.raws ≤ 2 ^ 64 = omega (arith, longer w new leaves.grows work, subst (λ name. length (document new name).raws ≤ 2 ^ 64) at few) in
          subst (λ name. GoesOnBeside (id_of k) (ledger_in w name) (ledger_in new name)) (sym at)
          (subst (λ (x : Document). GoesOnBeside (id_of k) (ledger_of d) (ledger_of x)) (sym own)
          (goes_beside (id_of k) d.raws raw e.entries (other_client q k held apart at within) added))
      by false other =
          let same : document new k.document ≡ document w k.document = document_inserted w.documents work (grown e d) k.document ∙ ap (λ b. cond b (grown e d) (document w k.document)) other in
          subst (λ (x : Document). GoesOnBeside (id_of k) (ledger_in w k.document) (ledger_of x)) (sym same)
          (record { more = []; is = sym (append-nil (ledger_in w k.document)); beside = All-nil (λ entry. is_made_by (id_of k) entry.0 ≡ false) })

  not_container : (q : List ℕ) (k : Container) → get w.names q ≡ Some (container k) → named client ≡ q → ⊥
  not_container q k held one_name =
      let two : Some (connection (voice_of w (named client))) ≡ Some (container k) = sym there ∙ ap (get w.names) one_name ∙ held in
      absurd (cc)

  not_roamer : (q : List ℕ) (k : Roamer) → get w.names q ≡ Some (roamer k) → named client ≡ q → ⊥
  not_roamer q k held one_name =
      let two : Some (connection (voice_of w (named client))) ≡ Some (roamer k) = sym there ∙ ap (get w.names) one_name ∙ held in
      absurd (cc)

  all_left : LeavesAll w new
  all_left = record {
    sound = leaves.sound;
    store = refl;
    moment = refl;
    opened = refl;
    names = λ q. record {
      name = name_stays q;
      container = λ k held few. beside q k (ap client_in held) (not_container q k held) few;
      roamer = λ k held few. beside q k.client (ap client_in held) (not_roamer q k held) few;
    };
  }

  pub leaves_all : LeavesAll w (behind_entry limits w client raw)
  leaves_all = subst (LeavesAll w) (sym (entry_is limits w client raw out refl)) all_left

pub submissions_leave_all : SubmissionsLeaveAll
submissions_leave_all limits w client id s moment sound is = leaves_all limits w client id s moment sound is
