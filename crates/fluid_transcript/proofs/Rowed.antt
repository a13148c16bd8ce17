-- The submissions of a text are one row.
use Rattle.std.proofs.Common.{◌≡◌, ℕ, zero, suc, ◌+◌, ◌-◌, Bool, true, false, List, [], ◌∷◌, ◌++◌, map, take, drop, refl, sym, ap, ap₂, ◌∙◌, append_assoc, append-nil, arith}
use Rattle.std.specs.Prelude.{nat_le}
use Rattle.std.specs.List.{flat_map}
use Rattle.std.proofs.lemmas.Bool.Decides.{nat_tests}
use Rattle.fluid_types.specs.declared.entries.Raw.{Raw}
use Rattle.fluid_types.specs.declared.entries.Raw.TheVariants.{Submit}
use Rattle.fluid_types.specs.declared.entries.Submission.{Submission}
use Rattle.fluid_types.specs.declared.verdicts.Verdict.{Verdict}
use Rattle.fluid_types.specs.Ledger.{Ledger}
use Rattle.fluid_rules.specs.Rules.{verdict, ledger, entries_behind}
use Rattle.fluid_rules.specs.Counted.{counted, room}
use Rattle.fluid_rules.specs.declared.limits.Limits.{Limits}
use Rattle.fluid_rules.proofs.Counted.{counted-push}
use Rattle.fluid_rules.proofs.Legal.{ledger-push}
use Rattle.fluid_store.specs.Held.{Held}
use Rattle.fluid_voice.specs.declared.actions.Act.TheVariants as act
use Rattle.fluid_voice.specs.Heard.{submission_acts}
use Rattle.fluid_transcript.specs.World.{Document}
use Rattle.fluid_transcript.specs.Connections.{hear, hear_act}
use Rattle.fluid_transcript.specs.Laws.{raws_of, verdict_lines, full_reply_line, submission_lines, writing, ledger_with, behind_all, SubmissionsAreOneRow}

module _ (limits : Limits) (opened : List (List ℕ)) (c : List ℕ) (d : Document) (name id : List ℕ) (next : ℕ) (store : Held) (moment : ℕ) where
  one_full : (s : Submission) (before : List Raw) (lines : List (List ℕ)) → nat_le limits.entries (counted (ledger_with d before)) ≡ true
      → hear_act limits opened c d (writing name id next store before lines) (act.Enter (Submit id s moment)) ≡ writing name id next store before (lines ++ full_reply_line c name ∷ [])
  one_full s before lines is = rw is (ap (λ raws. writing name id next store raws (lines ++ full_reply_line c name ∷ [])) (append-nil before))

  one_entered : (s : Submission) (before : List Raw) (lines : List (List ℕ)) → nat_le limits.entries (counted (ledger_with d before)) ≡ false
      → hear_act limits opened c d (writing name id next store before lines) (act.Enter (Submit id s moment))
      ≡ writing name id next store (before ++ Submit id s moment ∷ []) (lines ++ verdict_lines c name (verdict (ledger_with d before) (Submit id s moment)))
  one_entered s before lines is = rw is refl

  all_full : (submissions : List Submission) (before : List Raw) (lines : List (List ℕ)) → nat_le limits.entries (counted (ledger_with d before)) ≡ true
      → hear limits opened c d (writing name id next store before lines) (submission_acts moment id submissions)
      ≡ writing name id next store before (lines ++ map (λ raw. full_reply_line c name) (raws_of moment id submissions))
  all_full [] before lines is = ap (writing name id next store before) (sym (append-nil lines))
  all_full (s ∷ rest) before lines is =
      ap (λ h. hear limits opened c d h (submission_acts moment id rest)) (one_full s before lines is)
      ∙ all_full rest before (lines ++ full_reply_line c name ∷ []) is
      ∙ ap (writing name id next store before) (append_assoc lines (full_reply_line c name ∷ []) (map (λ raw. full_reply_line c name) (raws_of moment id rest)))

  -- the ledger with one entry more
  ledger_more : (before : List Raw) (raw : Raw) → ledger_with d (before ++ raw ∷ []) ≡ ledger_with d before ++ (raw, verdict (ledger_with d before) raw) ∷ []
  ledger_more before raw = ap ledger (sym (append_assoc d.raws before (raw ∷ []))) ∙ ledger-push (d.raws ++ before) raw

  no_room : (most count : ℕ) → nat_le most count ≡ true → most - count ≡ 0
  no_room most count is = grind (arith, nat_tests, is)

  less_room : (most count more : ℕ) → nat_le most count ≡ false → more ≡ count + 1 → most - count ≡ suc (most - more)
  less_room most count more is e = grind (arith, nat_tests, is, e)

  counted_more : (s : Submission) (before : List Raw) → counted (ledger_with d (before ++ Submit id s moment ∷ [])) ≡ counted (ledger_with d before) + 1
  counted_more s before =
      ap counted (ledger_more before (Submit id s moment)) ∙ counted-push (ledger_with d before) (Submit id s moment, verdict (ledger_with d before) (Submit id s moment))

  -- nothing is left
  none_left : (most : ℕ) (l : Ledger) (before : List Raw) (lines : List (List ℕ))
      → writing name id next store before lines ≡ writing name id next store (before ++ take most []) (lines ++ submission_lines c name l [] most)
  none_left zero l before lines = ap₂ (writing name id next store) (sym (append-nil before)) (sym (append-nil lines))
  none_left (suc most) l before lines = ap₂ (writing name id next store) (sym (append-nil before)) (sym (append-nil lines))

  -- the first was entered, and the others follow
  first_then : (raw : Raw) (v : Verdict) (rest before : List Raw) (lines : List (List ℕ)) (most : ℕ) (l after : Ledger) → v ≡ verdict l raw → after ≡ l ++ (raw, v) ∷ []
      → writing name id next store ((before ++ raw ∷ []) ++ take most rest) ((lines ++ verdict_lines c name v) ++ submission_lines c name after rest most)
      ≡ writing name id next store (before ++ take (suc most) (raw ∷ rest)) (lines ++ submission_lines c name l (raw ∷ rest) (suc most))
  first_then raw v rest before lines most l after is grown =
      rw (grown, is)
      (ap₂ (writing name id next store) (append_assoc before (raw ∷ []) (take most rest))
      (append_assoc lines (verdict_lines c name (verdict l raw)) (submission_lines c name (l ++ (raw, verdict l raw) ∷ []) rest most)
      ∙ ap (λ more. lines ++ more) (sym (append_assoc (verdict_lines c name (verdict l raw))
      (flat_map (λ entry. verdict_lines c name entry.1) (entries_behind (l ++ (raw, verdict l raw) ∷ []) (take most rest))) (map (λ raw. full_reply_line c name) (drop most rest))))))

  -- the first of several, by whether the document is full
  rowed_by : (s : Submission) (rest : List Submission) (before : List Raw) (lines : List (List ℕ)) (full : Bool) → nat_le limits.entries (counted (ledger_with d before)) ≡ full
      → hear limits opened c d (writing name id next store (before ++ Submit id s moment ∷ []) (lines ++ verdict_lines c name (verdict (ledger_with d before) (Submit id s moment)))) (submission_acts moment id rest)
      ≡ behind_all limits c d name id next store (before ++ Submit id s moment ∷ []) (lines ++ verdict_lines c name (verdict (ledger_with d before) (Submit id s moment))) (raws_of moment id rest)
      → hear limits opened c d (writing name id next store before lines) (submission_acts moment id (s ∷ rest)) ≡ behind_all limits c d name id next store before lines (raws_of moment id (s ∷ rest))
  rowed_by s rest before lines true is others =
      all_full (s ∷ rest) before lines is
      ∙ ap (λ raws. writing name id next store raws (lines ++ submission_lines c name (ledger_with d before) (raws_of moment id (s ∷ rest)) 0)) (sym (append-nil before))
      ∙ ap (λ most. writing name id next store (before ++ take most (raws_of moment id (s ∷ rest))) (lines ++ submission_lines c name (ledger_with d before) (raws_of moment id (s ∷ rest)) most))
      (sym (no_room limits.entries (counted (ledger_with d before)) is))
  rowed_by s rest before lines false is others =
      ap (λ h. hear limits opened c d h (submission_acts moment id rest)) (one_entered s before lines is)
      ∙ others
      ∙ first_then (Submit id s moment) (verdict (ledger_with d before) (Submit id s moment)) (raws_of moment id rest) before lines
      (room limits.entries (ledger_with d (before ++ Submit id s moment ∷ []))) (ledger_with d before) (ledger_with d (before ++ Submit id s moment ∷ [])) refl
      (ledger_more before (Submit id s moment))
      ∙ ap (λ most. writing name id next store (before ++ take most (raws_of moment id (s ∷ rest))) (lines ++ submission_lines c name (ledger_with d before) (raws_of moment id (s ∷ rest)) most))
      (sym (less_room limits.entries (counted (ledger_with d before)) (counted (ledger_with d (before ++ Submit id s moment ∷ []))) is (counted_more s before)))

  rowed : (submissions : List Submission) (before : List Raw) (lines : List (List ℕ))
      → hear limits opened c d (writing name id next store before lines) (submission_acts moment id submissions) ≡ behind_all limits c d name id next store before lines (raws_of moment id submissions)
  rowed [] before lines = none_left (room limits.entries (ledger_with d before)) (ledger_with d before) before lines
  rowed (s ∷ rest) before lines =
      rowed_by s rest before lines (nat_le limits.entries (counted (ledger_with d before))) refl
      (rowed rest (before ++ Submit id s moment ∷ []) (lines ++ verdict_lines c name (verdict (ledger_with d before) (Submit id s moment))))

pub one_row : SubmissionsAreOneRow
one_row limits opened c d name id next store moment submissions before lines = rowed limits opened c d name id next store moment submissions before lines
