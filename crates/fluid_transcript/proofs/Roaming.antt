-- What the steps of roamers do to a sound world.
use Rattle.std.proofs.Common.{◌≡◌, inl, inr, ℕ, ◌+◌, ◌≤◌, ◌<◌, arith, Bool, true, false, List, [], ◌∷◌, ◌++◌, length, take, drop, Option, Some, None, Result, Ok, Err, refl, sym, ap, ap₂, subst, ◌∙◌, length-append, length-drop, append_assoc, append-nil}
use Rattle.std.specs.Prelude.{IfSome}
use Rattle.std.specs.FinMap.{get}
use Rattle.std.proofs.lemmas.List.{take-append-drop}
use Rattle.fluid_json.specs.Tree.{Tree}
use Rattle.fluid_json.specs.declared.fault.JsonFault.{JsonFault}
use Rattle.fluid_types.specs.declared.entries.Raw.{Raw}
use Rattle.fluid_types.specs.declared.entries.Raw.TheVariants.{Leave}
use Rattle.fluid_types.specs.Ledger.{Ledger, order, seq}
use Rattle.fluid_types.specs.Names.{entry_name}
use Rattle.fluid_rules.specs.Rules.{ledger}
use Rattle.fluid_rules.specs.declared.limits.Limits.{Limits}
use Rattle.fluid_rules.proofs.Joined.{some_same}
use Rattle.fluid_edits.specs.declared.edit.Edit.{Edit}
use Rattle.fluid_runtime.specs.Refused.{answer}
use Rattle.fluid_runtime.specs.declared.fault.EditFault.{EditFault}
use Rattle.fluid_store.specs.Held.{Keeps}
use Rattle.fluid_voice.specs.declared.refusals.ConnectRefusal.{ConnectRefusal}
use Rattle.fluid_transcript.specs.World.{Document, Container, Roamer, roamer, World, document, is_open, ledger_of, Effect, grown, changed}
use Rattle.fluid_transcript.specs.Containers.{id_of, visible, join_for, joining, join_refusal, own_ops, caught_up}
use Rattle.fluid_transcript.specs.Roamers.{behind_join, begun, roamed_by, roamed, heard_all, laid_over, said_by, lost, left, rejoined, back_by, came_back, acked}
use Rattle.fluid_transcript.specs.Steps.{refusal_as_new, say_effect}
use Rattle.fluid_transcript.specs.Sound.{BeginsWith, GoesOnAs, IsSameRoamer, client_in, ledger_in, IsAcknowledged, IsSoundContainer, IsSoundRoamer, IsSoundName, IsSound}
use Rattle.fluid_transcript.proofs.Begins.{ledger_begins, seq_begins, first_begin}
use Rattle.fluid_transcript.proofs.Sounds.{open_stays, document_own, changed_grows, container_stays, IsNewClient, NamesFit, EffectFits}
use Rattle.fluid_transcript.proofs.Fitting.{plain, keeps_self, IsFound}
use Rattle.fluid_transcript.proofs.Holding.{new_on, used_fits, whole_order}
use Rattle.fluid_transcript.proofs.Acks.{acknowledged_on}

-- ---- a container that hears all of a ledger that goes on

module _ (w : World) (k : Container) (is_sound : IsSoundContainer w k) (l : Ledger) (begins : BeginsWith (ledger_in w k.document) l) where
  further : k.number ≤ seq l
  further = omega (arith, is_sound.number, seq_begins (ledger_in w k.document) l begins)

  all_acknowledged : IsAcknowledged (order l) k.base
  all_acknowledged =
      subst (λ ms. IsAcknowledged ms k.base) (take-append-drop k.number (order l))
      (acknowledged_on (take k.number (order l)) (drop k.number (order l)) k.base
      (subst (λ ms. IsAcknowledged ms k.base) (sym (first_begin (ledger_in w k.document) l k.number begins is_sound.number)) is_sound.acknowledged))

  -- behind as many entries as may be, in a world whose ledger goes on from there
  heard_sound : (new : World) (entries : ℕ) → is_open new k.document ≡ true → entries < length (document new k.document).raws → BeginsWith l (ledger_in new k.document)
      → IsSoundContainer new (record (caught_up l k) { entries = entries })
  heard_sound new entries opened below more = record {
    open_is = opened;
    entries = below;
    base = omega (arith, is_sound.base, further);
    number = seq_begins l (ledger_in new k.document) more;
    acknowledged =
        subst (λ ms. IsAcknowledged ms k.base) (sym (first_begin l (ledger_in new k.document) (seq l) more (omega arith) ∙ whole_order l)) all_acknowledged;
  }

two_more : (xs : List Raw) (a b : Raw) (more : List Raw) → ((xs ++ a ∷ []) ++ b ∷ []) ++ more ≡ xs ++ a ∷ b ∷ more
two_more xs a b more = ap (λ ys. ys ++ more) (append_assoc xs (a ∷ []) (b ∷ [])) ∙ append_assoc xs (a ∷ b ∷ []) more

-- ---- roam

module _ (w : World) (d : Document) (r name : List ℕ) (ok : refusal_as_new (get w.names r) ≡ None) (found : IsFound w name d) where
  abbrev join : Raw
  join = join_for w (ledger_of d)

  begun_fits : (e : Effect) → Keeps w.store e.store → e.entries ≡ join ∷ [] → e.name ≡ Some (r, roamer (begun w d name)) → EffectFits w (Some name) e
  begun_fits e keeps entries is =
      let new = changed e (Some name) w in
      let raws_are : (document new name).raws ≡ d.raws ++ join ∷ [] =
      ap (λ doc. doc.raws) (document_own w.documents name (grown e (document w name))) ∙ ap (λ more. (document w name).raws ++ more) entries ∙ ap (λ doc. doc.raws ++ join ∷ []) (sym found.is) in
      let long : length (document new name).raws ≡ length d.raws + 1 = ap length raws_are ∙ length-append d.raws (join ∷ []) in
      record {
        held = keeps;
        name = subst (NamesFit w new) (sym is) (record {
          sound = record {
            client = record {
              open_is = open_stays w new (changed_grows e (Some name) w keeps) name found.open_is;
              entries = omega (arith, long);
              base = omega arith;
              number = omega (arith, ap (λ raws. seq (ledger raws)) raws_are);
              acknowledged = inl refl;
            };
            from = refl;
            base = refl;
          };
          goes_on = new_on (get w.names r) _ ok;
          client = λ n id h.
              let same = some_same (name, entry_name (length d.raws)) (n, id) h in
              let same_name : name ≡ n = ap (λ pair. pair.0) same in
              let same_id : entry_name (length d.raws) ≡ id = ap (λ pair. pair.1) same in
              inr (subst (λ q. IsNewClient w new q id) same_name (record {
                place = length d.raws;
                is = sym same_id;
                behind = omega (arith, ap (λ doc. length doc.raws) found.is);
                below = omega (arith, long);
              }));
        });
      }

  roam_by : (refusal : Option ConnectRefusal) → EffectFits w (Some name) (roamed_by w d r name refusal)
  roam_by None = begun_fits (roamed_by w d r name None) (keeps_self w.store) refl refl
  roam_by (Some refusal) = used_fits w (Some name) (roamed_by w d r name (Some refusal)) r ok (keeps_self w.store) refl

  pub roam_fits : (limits : Limits) → EffectFits w (Some name) (roamed limits w d r name)
  roam_fits limits = roam_by (join_refusal (joining limits w (ledger_of d)))

-- ---- the other steps

module _ (w : World) (r : List ℕ) (k : Roamer) (sound : IsSound w) (there : get w.names r ≡ Some (roamer k)) where
  its_sound : IsSoundRoamer w k
  its_sound = subst (λ o. IfSome o (IsSoundName w)) there (sound.names r)

  client_sound : IsSoundContainer w k.client
  client_sound = its_sound.client

  -- the same client
  goes_on : (about : Option (List ℕ)) (e : Effect) (later : Roamer) → Keeps w.store e.store → e.name ≡ Some (r, roamer later) → later.client.entries ≡ k.client.entries → IsSameRoamer k later
      → IsSoundContainer w later.client → EffectFits w about e
  goes_on about e later keeps is own same ok = record {
    held = keeps;
    name = subst (NamesFit w (changed e about w)) (sym is) (record {
      sound = record {
        client = container_stays w (changed e about w) (changed_grows e about w keeps) later.client ok;
        from = same.from ∙ its_sound.from;
        base = same.base ∙ its_sound.base;
      };
      goes_on = subst (λ o. GoesOnAs o (Some (roamer later))) (sym there) same;
      client = λ name id h. inl (ap client_in there ∙ ap₂ (λ n i. Some (n, entry_name i)) (sym same.document) (sym own) ∙ h);
    });
  }

  -- with other pending edits, no fewer, lost or not
  other : (about : Option (List ℕ)) (e : Effect) (pending : List Edit) (is_lost : Bool) → length k.client.pending ≤ length pending → Keeps w.store e.store
      → e.name ≡ Some (r, roamer (record k { client = record k.client { pending = pending }; is_lost = is_lost })) → EffectFits w about e
  other about e pending is_lost as_many keeps is =
      goes_on about e (record k { client = record k.client { pending = pending }; is_lost = is_lost }) keeps is refl
      (record { document = refl; entries = omega arith; from = refl; base = refl; number = omega arith; stood = omega arith; said = omega (arith, as_many) })
      (record { open_is = client_sound.open_is; entries = client_sound.entries; base = client_sound.base; number = client_sound.number; acknowledged = client_sound.acknowledged })

  pub lose_fits : (about : Option (List ℕ)) → EffectFits w about (lost w r k)
  lose_fits about = other about (lost w r k) k.client.pending true (omega arith) (keeps_self w.store) refl

  one_more : (edit : Edit) → length k.client.pending ≤ length (k.client.pending ++ edit ∷ [])
  one_more edit = omega (arith, length-append k.client.pending (edit ∷ []))

  lay_over : (limits : Limits) (about : Option (List ℕ)) (l : Ledger) (edit : Edit) (contents : Tree) (is_lost : Bool) → k.is_lost ≡ is_lost
      → EffectFits w about (laid_over limits w l r k edit contents is_lost)
  lay_over limits about l edit contents true is =
      other about (laid_over limits w l r k edit contents true) (k.client.pending ++ edit ∷ []) k.is_lost (one_more edit) (keeps_self w.store) refl
  lay_over limits about l edit contents false is =
      other about (laid_over limits w l r k edit contents false) (k.client.pending ++ edit ∷ []) _ (one_more edit) (keeps_self w.store) refl

  say_by : (limits : Limits) (about : Option (List ℕ)) (l : Ledger) (edit : Edit) (contents : Result Tree EditFault) → EffectFits w about (said_by limits w l r k edit contents)
  say_by limits about l edit (Err fault) = plain w about (said_by limits w l r k edit (Err fault)) refl (keeps_self w.store)
  say_by limits about l edit (Ok contents) = lay_over limits about l edit contents k.is_lost refl

  pub say_fits : (limits : Limits) (about : Option (List ℕ)) (d : Document) (op : Result Edit JsonFault) → EffectFits w about (say_effect limits w d r op k)
  say_fits limits about d (Ok edit) = say_by limits about (ledger_of d) edit (answer (visible (ledger_of d) k.client) edit)
  say_fits limits about d (Err fault) = plain w about (say_effect limits w d r (Err fault) k) refl (keeps_self w.store)

  -- an edit that stands isn't pending any more
  none_unsaid : (l : Ledger) → k.stood + length k.client.pending ≤ k.stood + own_ops l k.client + length (drop (own_ops l k.client) k.client.pending)
  none_unsaid l = omega (arith, length-drop (own_ops l k.client) k.client.pending)

  module _ (d : Document) (found : IsFound w k.client.document d) where
    same_ledger : BeginsWith (ledger_of d) (ledger_in w k.client.document)
    same_ledger = record { more = []; is = ap ledger_of (sym found.is) ∙ sym (append-nil (ledger_of d)) }

    its_ledger : BeginsWith (ledger_in w k.client.document) (ledger_of d)
    its_ledger = record { more = []; is = ap ledger_of found.is ∙ sym (append-nil (ledger_in w k.client.document)) }

    pub acked_fits : EffectFits w (Some k.client.document) (acked w d r k)
    acked_fits =
        goes_on (Some k.client.document) (acked w d r k) (heard_all (ledger_of d) k) (keeps_self w.store) refl refl
        (record {
          document = refl;
          entries = omega arith;
          from = refl;
          base = refl;
          number = further w k.client client_sound (ledger_of d) its_ledger;
          stood = omega arith;
          said = none_unsaid (ledger_of d);
        })
        (heard_sound w k.client client_sound (ledger_of d) its_ledger w k.client.entries client_sound.open_is client_sound.entries same_ledger)

    abbrev leave : Raw
    leave = Leave (id_of k.client) w.moment

    abbrev join_again : Raw
    join_again = join_for w (ledger_of (left w d k))

    abbrev behind : Ledger
    behind = behind_join w (left w d k)

    behind_is : (more : List Raw) → ((document w k.client.document).raws ++ leave ∷ join_again ∷ more) ≡ ((d.raws ++ leave ∷ []) ++ join_again ∷ []) ++ more
    behind_is more = ap (λ doc. doc.raws ++ leave ∷ join_again ∷ more) (sym found.is) ∙ sym (two_more d.raws leave join_again more)

    resent_fits : (e : Effect) (more : List Raw) (is_lost : Bool) → Keeps w.store e.store → e.entries ≡ leave ∷ join_again ∷ more
        → e.name ≡ Some (r, roamer (record (rejoined w (left w d k) k) { is_lost = is_lost })) → EffectFits w (Some k.client.document) e
    resent_fits e more is_lost keeps entries is =
        let name = k.client.document in
        let new = changed e (Some name) w in
        let raws_are : (document new name).raws ≡ ((d.raws ++ leave ∷ []) ++ join_again ∷ []) ++ more =
        ap (λ doc. doc.raws) (document_own w.documents name (grown e (document w name))) ∙ ap (λ added. (document w name).raws ++ added) entries ∙ behind_is more in
        let before : BeginsWith (ledger_in w name) behind =
        ledger_begins (document w name).raws ((d.raws ++ leave ∷ []) ++ join_again ∷ []) (record { more = leave ∷ join_again ∷ []; is = sym (append-nil ((d.raws ++ leave ∷ []) ++ join_again ∷ [])) ∙ sym (behind_is []) }) in
        let later : BeginsWith behind (ledger_in new name) =
        ledger_begins ((d.raws ++ leave ∷ []) ++ join_again ∷ []) (document new name).raws (record { more = more; is = raws_are }) in
        let first : length (d.raws ++ leave ∷ []) ≡ length d.raws + 1 = length-append d.raws (leave ∷ []) in
        let own : length d.raws ≡ length (document w name).raws = ap (λ doc. length doc.raws) found.is in
        let long : length (document new name).raws ≡ length (d.raws ++ leave ∷ []) + 1 + length more =
        ap length raws_are ∙ length-append ((d.raws ++ leave ∷ []) ++ join_again ∷ []) more ∙ ap (λ n. n + length more) (length-append (d.raws ++ leave ∷ []) (join_again ∷ [])) in
        record {
          held = keeps;
          name = subst (NamesFit w new) (sym is) (record {
            sound = record {
              client = heard_sound w k.client client_sound behind before new (length (d.raws ++ leave ∷ []))
                  (open_stays w new (changed_grows e (Some name) w keeps) name found.open_is) (omega (arith, long)) later;
              from = its_sound.from;
              base = its_sound.base;
            };
            goes_on = subst (λ o. GoesOnAs o (Some (roamer (record (rejoined w (left w d k) k) { is_lost = is_lost })))) (sym there) (record {
              document = refl;
              entries = omega (arith, client_sound.entries, first, own);
              from = refl;
              base = refl;
              number = further w k.client client_sound behind before;
              stood = omega arith;
              said = none_unsaid behind;
            });
            client = λ n id h.
                let same = some_same (name, entry_name (length (d.raws ++ leave ∷ []))) (n, id) h in
                let same_name : name ≡ n = ap (λ pair. pair.0) same in
                let same_id : entry_name (length (d.raws ++ leave ∷ [])) ≡ id = ap (λ pair. pair.1) same in
                inr (subst (λ q. IsNewClient w new q id) same_name (record {
                  place = length (d.raws ++ leave ∷ []);
                  is = sym same_id;
                  behind = omega (arith, first, own);
                  below = omega (arith, long);
                }));
          });
        }

    back_fits_by : (limits : Limits) (refusal : Option ConnectRefusal) → EffectFits w (Some k.client.document) (back_by limits w (left w d k) r k leave refusal)
    back_fits_by limits None = resent_fits (back_by limits w (left w d k) r k leave None) _ _ (keeps_self w.store) refl refl
    back_fits_by limits (Some refusal) = plain w (Some k.client.document) (back_by limits w (left w d k) r k leave (Some refusal)) refl (keeps_self w.store)

    pub back_fits : (limits : Limits) → EffectFits w (Some k.client.document) (came_back limits w d r k)
    back_fits limits = back_fits_by limits (join_refusal (joining limits w (ledger_of (left w d k))))
