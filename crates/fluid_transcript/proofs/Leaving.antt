-- What a hearing leaves is what its acts leave.
use Rattle.std.proofs.Common.{◌≡◌, ℕ, Bool, true, false, if◌then◌else◌, List, [], ◌∷◌, ◌++◌, map, Option, Some, None, bytes_eq, refl, sym, ap, ap₂, ◌∙◌, append_assoc, append-nil}
use Rattle.std.specs.FinMap.{get}
use Rattle.sha1.specs.Sha1.{sha1}
use Rattle.fluid_json.specs.Tree.{Tree}
use Rattle.fluid_types.specs.declared.entries.Raw.{Raw}
use Rattle.fluid_types.specs.declared.entries.Scopes.{Scopes}
use Rattle.fluid_types.specs.declared.verdicts.Verdict.{Verdict}
use Rattle.fluid_types.specs.declared.verdicts.Verdict.TheVariants.{Sequenced, Nacked, Dropped, Absorbed}
use Rattle.fluid_types.specs.Ledger.{Ledger}
use Rattle.fluid_rules.specs.Rules.{verdict, ledger}
use Rattle.fluid_rules.specs.declared.limits.Limits.{Limits}
use Rattle.fluid_rules.proofs.Legal.{ledger-push}
use Rattle.fluid_store.specs.Held.{Held}
use Rattle.fluid_codec.specs.declared.replies.Reply.TheVariants.{Stored}
use Rattle.fluid_voice.specs.declared.actions.Act.{Act}
use Rattle.fluid_voice.specs.declared.actions.Act.TheVariants as act
use Rattle.fluid_voice.specs.declared.ends.ActEnd.TheVariants.{Entered, FullNow, TooMany, Given}
use Rattle.fluid_voice.specs.declared.refusals.ConnectRefusal.TheVariants.{TooManyDocuments}
use Rattle.fluid_voice.specs.Refusals.{refused}
use Rattle.fluid_voice.specs.Ends.{Found, join_of, joined_by, connect_end, put_under, added_by, held_with, found_after, found_behind}
use Rattle.fluid_voice.specs.Ends.Outcome.{ends, clashes}
use Rattle.fluid_transcript.specs.World.{Document}
use Rattle.fluid_transcript.specs.Connections.{Hearing, found_by, behind_act, hear_act}
use Rattle.fluid_transcript.specs.Laws.{LeavesWhatActsLeave}

abbrev found_with : Limits → List (List ℕ) → Ledger → Held → Found
found_with limits opened l held = record { opened = opened; limits = limits; ledger = l; held = held }

-- the ledger with the entries of these more
abbrev Grows : Document → List Raw → Ledger → Type 0
Grows d before added = ledger (d.raws ++ (before ++ map (λ entry. entry.0) added)) ≡ ledger (d.raws ++ before) ++ added

none_added : (d : Document) (before : List Raw) → Grows d before []
none_added d before = ap (λ raws. ledger (d.raws ++ raws)) (append-nil before) ∙ sym (append-nil (ledger (d.raws ++ before)))

one_added : (d : Document) (before : List Raw) (raw : Raw) (v : Verdict) → verdict (ledger (d.raws ++ before)) raw ≡ v → Grows d before ((raw, v) ∷ [])
one_added d before raw v is =
    ap ledger (sym (append_assoc d.raws before (raw ∷ [])))
    ∙ (ledger-push (d.raws ++ before) raw ∙ ap (λ w. ledger (d.raws ++ before) ++ (raw, w) ∷ []) is)

module _ (d : Document) (before : List Raw) (name : List ℕ) (scopes : Scopes) (detail : Tree) (moment : ℕ) where
  joined : (id : List ℕ) (v : Verdict) → verdict (ledger (d.raws ++ before)) (join_of (ledger (d.raws ++ before)) scopes detail moment) ≡ v
      → Grows d before (added_by (ledger (d.raws ++ before)) (act.Connect name true scopes detail moment) (ends (joined_by id v)))
  joined id (Sequenced message) is = one_added d before (join_of (ledger (d.raws ++ before)) scopes detail moment) _ refl
  joined id (Nacked nack) is = one_added d before (join_of (ledger (d.raws ++ before)) scopes detail moment) (Nacked nack) is
  joined id Dropped is = one_added d before (join_of (ledger (d.raws ++ before)) scopes detail moment) Dropped is
  joined id Absorbed is = one_added d before (join_of (ledger (d.raws ++ before)) scopes detail moment) Absorbed is

  join_ended : (id : List ℕ) (full many : Bool)
      → Grows d before (added_by (ledger (d.raws ++ before)) (act.Connect name true scopes detail moment)
      (ends (if full then FullNow else if many then TooMany else joined_by id (verdict (ledger (d.raws ++ before)) (join_of (ledger (d.raws ++ before)) scopes detail moment)))))
  join_ended id true many = none_added d before
  join_ended id false true = none_added d before
  join_ended id false false = joined id _ refl

  connected : (limits : Limits) (beyond write : Bool)
      → Grows d before (added_by (ledger (d.raws ++ before)) (act.Connect name write scopes detail moment)
      (ends (if beyond then Given (refused TooManyDocuments) else connect_end limits (ledger (d.raws ++ before)) write scopes detail moment)))
  connected limits true true = none_added d before
  connected limits true false = none_added d before
  connected limits false true = join_ended _ _ _
  connected limits false false = none_added d before

entered : (d : Document) (before : List Raw) (raw : Raw) (full : Bool)
    → Grows d before (added_by (ledger (d.raws ++ before)) (act.Enter raw) (ends (if full then FullNow else Entered (verdict (ledger (d.raws ++ before)) raw))))
entered d before raw true = none_added d before
entered d before raw false = one_added d before raw _ refl

module _ (limits : Limits) (opened : List (List ℕ)) (c : List ℕ) (d : Document) (h : Hearing) where
  kept : (bytes other : List ℕ) (same : Bool) → get h.store (sha1 bytes) ≡ Some other
      → found_by limits opened d (behind_act c (found_by limits opened d h) (act.PutObject bytes) h (if same then ends (Given (Stored (sha1 bytes))) else clashes (sha1 bytes) other bytes))
      ≡ found_with limits opened (ledger (d.raws ++ h.entries) ++ []) h.store
  kept bytes other true is = ap₂ (found_with limits opened) (none_added d h.entries) (ap (held_with h.store bytes) is)
  kept bytes other false is = ap (λ l. found_with limits opened l h.store) (sym (append-nil (ledger (d.raws ++ h.entries))))

  put : (bytes : List ℕ) (held : Option (List ℕ)) → get h.store (sha1 bytes) ≡ held
      → found_by limits opened d (behind_act c (found_by limits opened d h) (act.PutObject bytes) h (put_under (sha1 bytes) bytes held))
      ≡ found_with limits opened (ledger (d.raws ++ h.entries) ++ []) (held_with h.store bytes held)
  put bytes None is = ap₂ (found_with limits opened) (none_added d h.entries) (ap (held_with h.store bytes) is)
  put bytes (Some other) is = kept bytes other (bytes_eq other bytes) is

  step : (a : Act) → found_by limits opened d (hear_act limits opened c d h a) ≡ found_after (found_by limits opened d h) a
  step (act.Say reply) = ap (λ l. found_with limits opened l h.store) (none_added d h.entries)
  step (act.Connect name write scopes detail moment) =
      ap (λ l. found_with limits opened l h.store) (connected d h.entries name scopes detail moment limits _ write)
  step (act.Enter raw) = ap (λ l. found_with limits opened l h.store) (entered d h.entries raw _)
  step (act.Deltas from to) = ap (λ l. found_with limits opened l h.store) (none_added d h.entries)
  step (act.Summary asked) = ap (λ l. found_with limits opened l h.store) (none_added d h.entries)
  step (act.GetObject id) = ap (λ l. found_with limits opened l h.store) (none_added d h.entries)
  step (act.PutObject bytes) = put bytes _ refl

pub leaves : LeavesWhatActsLeave
unfolding found_behind
leaves limits opened c d h [] = refl
leaves limits opened c d h (a ∷ acts) =
    leaves limits opened c d (hear_act limits opened c d h a) acts ∙ ap (λ f. found_behind f acts) (step limits opened c d h a)
