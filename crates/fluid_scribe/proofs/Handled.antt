-- What is acknowledged is an id.
use Rattle.std.proofs.Common.{ℕ, ◌==◌, Bool, true, false, not, if◌then◌else◌, List, [], ◌∷◌, Option, Some, None}
use Rattle.fluid_types.specs.Blobs.{blobs_of}
use Rattle.fluid_types.specs.declared.messages.Message.{Message}
use Rattle.fluid_quorum.specs.declared.state.ScribeState.{ScribeState}
use Rattle.fluid_rules.specs.Rules.{first_case}
use Rattle.fluid_rules.specs.Scribe.{proposed_by, reference_of, is_stale, is_old, version}
use Rattle.fluid_rules.specs.declared.answers.Answer.TheVariants.{Dropped, Ack, Refused}
use Rattle.fluid_rules.specs.declared.answers.Proposed.{Proposed}
use Rattle.fluid_rules.specs.declared.answers.SummaryRule.TheVariants.{StaleHead, OldReference, Missing}
use Rattle.fluid_rules.proofs.Handles.{version-size}
use Rattle.fluid_scribe.specs.State.{quorum_in}
use Rattle.fluid_scribe.specs.Jobs.{last_ack_in, judged_in, answer_to_in, pending_in, answer_by_in, answer_in}
use Rattle.fluid_scribe.specs.Laws.{HasHandle, HandlesAreIds}

chain_handle : (stale old missing : Bool) (app : List ℕ) (texts : List (List ℕ × List ℕ)) →
    HasHandle (first_case ((stale, Refused StaleHead) ∷ (old, Refused OldReference) ∷ (missing, Refused Missing) ∷ []) (Ack (version app texts)))
chain_handle true old missing app texts = tt
chain_handle false true missing app texts = tt
chain_handle false false true app texts = tt
chain_handle false false false app texts = version-size app texts

judged_handle : (s : ScribeState) (reference : ℕ) (found : Bool) (proposed : Option Proposed) → HasHandle (judged_in s reference found proposed)
judged_handle s reference found None = tt
judged_handle s reference found (Some proposed) =
    chain_handle (is_stale (last_ack_in s) proposed) (is_old (last_ack_in s) reference) (not found) proposed.app (blobs_of (quorum_in s reference))

by_number : (b : Bool) (s : ScribeState) (found : Bool) (m : Message) → HasHandle (if b then answer_to_in s found m else Dropped)
unfolding answer_to_in
by_number true s found m = judged_handle s (reference_of m) found (proposed_by m)
by_number false s found m = tt

pending_handle : (s : ScribeState) (summary : ℕ) (found : Bool) (pending : Option Message) → HasHandle (answer_by_in s summary found pending)
pending_handle s summary found None = tt
pending_handle s summary found (Some m) = by_number (m.number == summary) s found m

pub answer_in-handle : HandlesAreIds
unfolding answer_in
answer_in-handle s summary found = pending_handle s summary found (pending_in s)
