-- Whatever is answered to a report, its handle has 20 bytes.
use Rattle.std.proofs.Common.{ℕ, Bool, true, false, not, ◌==◌, if◌then◌else◌, List, [], ◌∷◌, Option, Some, None}
use Rattle.std.specs.Prelude.{nat_le}
use Rattle.fluid_types.specs.declared.entries.Raw.{Raw}
use Rattle.fluid_types.specs.declared.entries.Raw.TheVariants.{Report}
use Rattle.fluid_types.specs.declared.messages.Message.{Message}
use Rattle.fluid_types.specs.Blobs.{blobs_of}
use Rattle.fluid_rules.specs.Rules.{first_case}
use Rattle.fluid_rules.specs.Scribe.{is_stale, is_old, reference_of, proposed_by, version}
use Rattle.fluid_rules.specs.declared.answers.Answer.TheVariants.{Dropped, Ack, Refused}
use Rattle.fluid_rules.specs.declared.answers.Answer.{Answer}
use Rattle.fluid_rules.specs.declared.answers.Proposed.{Proposed}
use Rattle.fluid_rules.specs.declared.answers.SummaryRule.TheVariants.{StaleHead, OldReference, Missing}
use Rattle.fluid_rules.proofs.Handles.{version-size}
use Rattle.fluid_quorum.specs.declared.state.ScribeState.{ScribeState}
use Rattle.fluid_scribe.specs.State.{quorum_in}
use Rattle.fluid_scribe.specs.Jobs.{last_ack_in, judged_in, answer_to_in, answer_by_in, answer_in, pending_in}
use Rattle.fluid_readback.specs.Laws.{HasHandle}
use Rattle.fluid_core.specs.Entering.{State, answer_for}

chain_handle : (stale old missing : Bool) (app : List ℕ) (texts : List (List ℕ × List ℕ))
    → HasHandle (first_case ((stale, Refused StaleHead) ∷ (old, Refused OldReference) ∷ (missing, Refused Missing) ∷ []) (Ack (version app texts)))
chain_handle true old missing app texts = tt
chain_handle false true missing app texts = tt
chain_handle false false true app texts = tt
chain_handle false false false app texts = version-size app texts

judged_handle : (s : ScribeState) (reference : ℕ) (found : Bool) (proposed : Option Proposed) → HasHandle (judged_in s reference found proposed)
judged_handle s reference found None = tt
judged_handle s reference found (Some proposed) =
    chain_handle (is_stale (last_ack_in s) proposed) (is_old (last_ack_in s) reference) (not found) proposed.app (blobs_of (quorum_in s reference))

if_handle : (b : Bool) (a : Answer) → HasHandle a → HasHandle (if b then a else Dropped)
if_handle true a is = is
if_handle false a is = tt

by_handle : (s : ScribeState) (summary : ℕ) (found : Bool) (pending : Option Message) → HasHandle (answer_by_in s summary found pending)
unfolding answer_to_in
by_handle s summary found None = tt
by_handle s summary found (Some m) = if_handle (m.number == summary) _ (judged_handle s (reference_of m) found (proposed_by m))

answer_handle : (s : ScribeState) (summary : ℕ) (found : Bool) → HasHandle (answer_in s summary found)
unfolding answer_in
answer_handle s summary found = by_handle s summary found (pending_in s)

-- so has what is answered to an entry
pub answered-handle : (s : State) (raw : Raw) → HasHandle (answer_for s raw)
answered-handle s (Report summary found moment) = if_handle (nat_le summary s.sequencer.sequence) _ (answer_handle s.scribe summary found)
answered-handle s raw = tt
