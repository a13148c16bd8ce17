-- One call more, in terms of what is kept: the outbox stands for the calls with it.
use Rattle.std.proofs.Common.{◌≡◌, ℕ, ◌+◌, List, [], ◌∷◌, ◌++◌, length, if◌then◌else◌, Option, Some, None, is_some, option_map, Result, Ok, Err, OnOk, IfOk, sym, ◌∙◌, ap, subst, arith}
use Rattle.std.proofs.lemmas.List.{reverse-append, length-drop}
use Rattle.fluid_json.specs.Tree.{Tree}
use Rattle.fluid_types.specs.declared.entries.Submission.{Submission}
use Rattle.fluid_outbox.specs.Past.{Given, Call, Gave, Past, edits, acknowledged, next}
use Rattle.fluid_outbox.specs.Kept.{AnOutbox, Stands, StandsFor, past_of, with_sent, to_send}
use Rattle.fluid_outbox.proofs.Sending.{sent_is, stands_gave}

-- a call more at the end is the first of the past
pub stands_with : (o : AnOutbox) (calls : List Call) (call : Call) → Stands o (call ∷ past_of calls) → StandsFor o (calls ++ call ∷ [])
stands_with o calls call is = subst (Stands o) (sym (reverse-append calls (call ∷ []))) is

-- the number of the next edit
pub next_number : (o : AnOutbox) (past : Past) → Stands o past → o.acknowledged + length o.pending ≡ length (edits past)
next_number o past is =
    omega (arith, is.counted, is.few, ap (λ (xs : List Tree). length xs) is.pending, length-drop (acknowledged past) (edits past))

pub numbered : {E : Type 0} (o : AnOutbox) (past : Past) (result : Result ℕ E) → Stands o past →
    IfOk result (λ number. number ≡ o.acknowledged + length o.pending) → IfOk result (λ number. number ≡ length (edits past))
numbered o past (Ok number) is at = at ∙ next_number o past is
numbered o past (Err fault) is at = tt

pub on_ok : {X E : Type 0} (P Q : Type 0) (result : Result X E) → (P → Q) → OnOk result P → OnOk result Q
on_ok P Q (Ok x) f p = f p
on_ok P Q (Err e) f p = tt

pub answered : {E : Type 0} (o : AnOutbox) (past : Past) (reference : ℕ) (result : Result (Option Submission) E) → Stands o past →
    IfOk result (λ submission. submission ≡ to_send o reference) → IfOk result (λ submission. submission ≡ option_map (λ (g : Given). g.submission) (next past reference))
answered o past reference (Ok submission) is at = at ∙ sym (sent_is o past reference is)
answered o past reference (Err fault) is at = tt

-- the outbox behind a `next` that gave an edit
pub gave : {E : Type 0} (o after : AnOutbox) (past : Past) (reference : ℕ) (g : Given) (result : Result (Option Submission) E) → Stands o past → next past reference ≡ Some g →
    IfOk result (λ submission. submission ≡ to_send o reference) → IfOk result (λ submission. after ≡ (if is_some submission then with_sent o else o)) →
    OnOk result (Stands after (Gave g ∷ past))
gave o after past reference g (Ok submission) is gives at kept =
    let some : submission ≡ Some g.submission = at ∙ sym (sent_is o past reference is) ∙ ap (λ (g : Option Given). option_map (λ (g : Given). g.submission) g) gives in
    let sent : after ≡ with_sent o = kept ∙ ap (λ (s : Option Submission). if is_some s then with_sent o else o) some in
    subst (λ (o : AnOutbox). Stands o (Gave g ∷ past)) (sym sent) (stands_gave o past reference g is gives)
gave o after past reference g (Err fault) is gives at kept = tt

pub gave_none : {E : Type 0} (o after : AnOutbox) (result : Result (Option Submission) E) →
    IfOk result (λ submission. after ≡ (if is_some submission then with_sent o else o)) → IfOk result (λ submission. submission ≡ None → after ≡ o)
gave_none o after (Ok submission) kept = λ none. kept ∙ ap (λ (s : Option Submission). if is_some s then with_sent o else o) none
gave_none o after (Err fault) kept = tt
