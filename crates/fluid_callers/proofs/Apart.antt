-- Acts that reach no document that is open.
use Rattle.std.proofs.Common.{◌≡◌, ℕ, if◌then◌else◌, List, [], ◌∷◌, ◌++◌, map, All, Result, Ok, Err, refl, sym, ap, ap₂, subst, ◌∙◌}
use Rattle.std.specs.Prelude.{MatchResult}
use Rattle.std.proofs.lemmas.List.Elements.{All-head, All-tail}
use Rattle.fluid_rules.specs.declared.limits.Limits.{Limits}
use Rattle.fluid_rules.specs.Rules.{ledger}
use Rattle.fluid_voice.specs.declared.refusals.ConnectRefusal.TheVariants.{TooManyDocuments}
use Rattle.fluid_voice.specs.declared.states.VoiceState.{VoiceState}
use Rattle.fluid_voice.specs.declared.actions.Act.{Act}
use Rattle.fluid_voice.specs.declared.actions.Act.TheVariants as act
use Rattle.fluid_voice.specs.declared.ends.ActEnd.TheVariants.{Given}
use Rattle.fluid_voice.specs.Refusals.{refused}
use Rattle.fluid_voice.specs.Ends.{outcome, connect_end}
use Rattle.fluid_voice.specs.Ends.Outcome.{ends}
use Rattle.fluid_voice.specs.Replies.{replies_to, state_after}
use Rattle.fluid_transcript.specs.World.{Document}
use Rattle.fluid_transcript.specs.Lines.{reply_line}
use Rattle.fluid_transcript.specs.Connections.{Hearing, found_by, behind_act, hear_act, hear}
use Rattle.fluid_transcript.specs.Transcript.{written}
use Rattle.fluid_desk.specs.declared.stop.Stop.{Stop}
use Rattle.fluid_desk.specs.declared.stop.Stop.TheVariants.{NoMemory}
use Rattle.fluid_callers.specs.Reaching.{IsNowhere, end_nowhere}
use Rattle.fluid_callers.specs.Hearing.{HasSaid, SaysOne}
use Rattle.fluid_callers.proofs.Bytes.{written_both}

module _ (limits : Limits) (opened : List (List ℕ)) (c : List ℕ) (d : Document) where
  ends_so : (h : Hearing) (a : Act) → IsNowhere opened a → outcome (found_by limits opened d h) a ≡ ends (end_nowhere a)
  ends_so h (act.Say reply) nowhere = refl
  ends_so h (act.Connect name write scopes detail moment) nowhere =
      ap (λ b. ends (if b then Given (refused TooManyDocuments) else connect_end limits (ledger (d.raws ++ h.entries)) write scopes detail moment)) nowhere
  ends_so h (act.Enter raw) nowhere = absurd nowhere
  ends_so h (act.Deltas from to) nowhere = absurd nowhere
  ends_so h (act.Summary asked) nowhere = absurd nowhere
  ends_so h (act.GetObject id) nowhere = absurd nowhere
  ends_so h (act.PutObject bytes) nowhere = absurd nowhere

  pub said_one : (h : Hearing) (a : Act) (voice after : VoiceState) (bytes lines : List ℕ) (result : Result (Unit {0}) Stop) → IsNowhere opened a → HasSaid h voice bytes
      → MatchResult result (λ done. (after ≡ state_after voice a (end_nowhere a)) × (lines ≡ bytes ++ written (map (reply_line c) (replies_to voice a (end_nowhere a))))) (λ stop. stop ≡ NoMemory)
      → SaysOne (hear_act limits opened c d h a) after lines result
  said_one h a voice after bytes lines (Err stop) nowhere said took = took
  said_one h a voice after bytes lines (Ok done) nowhere said took =
      let is : hear_act limits opened c d h a ≡ behind_act c (found_by limits opened d h) a h (ends (end_nowhere a)) = ap (behind_act c (found_by limits opened d h) a h) (ends_so h a nowhere) in
      subst (λ k. HasSaid k after lines) (sym is) (record {
        voice_is = took.0 ∙ ap (λ s. state_after s a (end_nowhere a)) said.voice_is;
        says =
            took.1 ∙ ap₂ (λ b s. b ++ written (map (reply_line c) (replies_to s a (end_nowhere a)))) said.says said.voice_is
            ∙ sym (written_both h.lines (map (reply_line c) (replies_to h.voice a (end_nowhere a))));
      })

  kept_one : (h : Hearing) (a : Act) → IsNowhere opened a → (hear_act limits opened c d h a).store ≡ h.store
  kept_one h a nowhere = ap (λ o. (behind_act c (found_by limits opened d h) a h o).store) (ends_so h a nowhere) ∙ by a nowhere
    where
      by : (a : Act) → IsNowhere opened a → (behind_act c (found_by limits opened d h) a h (ends (end_nowhere a))).store ≡ h.store
      by (act.Say reply) nowhere = refl
      by (act.Connect name write scopes detail moment) nowhere = refl
      by (act.Enter raw) nowhere = refl
      by (act.Deltas from to) nowhere = refl
      by (act.Summary asked) nowhere = refl
      by (act.GetObject id) nowhere = refl
      by (act.PutObject bytes) nowhere = absurd nowhere

  -- the store stays as it was
  pub kept_all : (h : Hearing) (acts : List Act) → All (IsNowhere opened) acts → (hear limits opened c d h acts).store ≡ h.store
  kept_all h [] nowhere = refl
  kept_all h (a ∷ acts) nowhere =
      kept_all (hear_act limits opened c d h a) acts (All-tail (IsNowhere opened) a acts nowhere) ∙ kept_one h a (All-head (IsNowhere opened) a acts nowhere)

-- so many were said: whatever comes of the rest from here is what comes of all of them
abbrev pub HasSaidSome : (c : List ℕ) (acts rest : List Act) (voice after : VoiceState) (bytes : List ℕ) → Type 0
HasSaidSome c acts rest voice after bytes =
    (limits : Limits) (opened : List (List ℕ)) (d : Document) (h : Hearing) → All (IsNowhere opened) acts → HasSaid h voice []
    → (k : Hearing) × (HasSaid k after bytes × (All (IsNowhere opened) rest × (hear limits opened c d k rest ≡ hear limits opened c d h acts)))

module _ (c : List ℕ) (acts : List Act) (voice : VoiceState) where
  pub said_none : HasSaidSome c acts acts voice voice []
  said_none limits opened d h nowhere is = (h, (is, (nowhere, refl)))

  abbrev pub SaysAct : (after last : VoiceState) (bytes lines : List ℕ) → Act → Result (Unit {0}) Stop → Type 0
  SaysAct after last bytes lines a result =
      (limits : Limits) (opened : List (List ℕ)) (d : Document) (h : Hearing) → IsNowhere opened a → HasSaid h after bytes → SaysOne (hear_act limits opened c d h a) last lines result

  pub said_more : (a : Act) (rest : List Act) (after last : VoiceState) (bytes lines : List ℕ) → HasSaidSome c acts (a ∷ rest) voice after bytes → SaysAct after last bytes lines a (Ok tt) → HasSaidSome c acts rest voice last lines
  said_more a rest after last bytes lines some does limits opened d h nowhere is =
      let k = some limits opened d h nowhere is in (
        hear_act limits opened c d k.0 a,
        (
          does limits opened d k.0 (All-head (IsNowhere opened) a rest k.1.1.0) k.1.0,
          (All-tail (IsNowhere opened) a rest k.1.1.0, k.1.1.1),
        ),
      )

  pub said_all : (after : VoiceState) (bytes : List ℕ) → HasSaidSome c acts [] voice after bytes
      → (limits : Limits) (opened : List (List ℕ)) (d : Document) (h : Hearing) → All (IsNowhere opened) acts → HasSaid h voice [] → HasSaid (hear limits opened c d h acts) after bytes
  said_all after bytes some limits opened d h nowhere is = let k = some limits opened d h nowhere is in subst (λ g. HasSaid g after bytes) k.1.1.1 k.1.0
