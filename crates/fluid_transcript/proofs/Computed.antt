-- The worked examples, computed.
use Rattle.std.proofs.Common.{refl}
use Rattle.std.specs.Fmt.{digits}
use Rattle.fluid_types.specs.Ledger.{order, seq}
use Rattle.fluid_types.specs.Texts.{code_of, kind_of, rule_text}
use Rattle.fluid_rules.specs.Past as past
use Rattle.fluid_rules.specs.Counted.{counted}
use Rattle.fluid_rules.specs.Rules.{past_of, is_joined, last_number, is_nacked, reference, scopes, heard, joined, minimum, last_minimum, lifted, unsettled, message, nack, submission_verdict, verdict, ledger}
use Rattle.fluid_rules.specs.Scribe.{unanswered, acks, acks_behind, ack_of}
use Rattle.fluid_edits.specs.Forms.{contents_of}
use Rattle.fluid_transcript.specs.Examples.{NewDocument, TwoClients, Sweeps, Loads, GoesOn}

pub new_document : NewDocument
unfolding past.membership past.tail past.last_number past.is_nacked past.latest_taken past.reference_from past.heard past.put_id past.ever_joined past.joined past.entered_at past.minimum past.reference order seq past_of is_joined last_number is_nacked reference scopes heard joined minimum last_minimum lifted unsettled message nack submission_verdict verdict ledger counted unanswered acks acks_behind ack_of code_of kind_of rule_text digits contents_of
new_document = record { count = refl; restart = refl; reopen = refl; sweep = refl; scribe = refl }

pub two_clients : TwoClients
unfolding past.membership past.tail past.last_number past.is_nacked past.latest_taken past.reference_from past.heard past.put_id past.ever_joined past.joined past.entered_at past.minimum past.reference order seq past_of is_joined last_number is_nacked reference scopes heard joined minimum last_minimum lifted unsettled message nack submission_verdict verdict ledger counted unanswered acks acks_behind ack_of code_of kind_of rule_text digits contents_of
two_clients = record { count = refl; restart = refl; largest = refl; full = refl; reopen = refl; leaves = refl }

pub sweeps : Sweeps
unfolding past.membership past.tail past.last_number past.is_nacked past.latest_taken past.reference_from past.heard past.put_id past.ever_joined past.joined past.entered_at past.minimum past.reference order seq past_of is_joined last_number is_nacked reference scopes heard joined minimum last_minimum lifted unsettled message nack submission_verdict verdict ledger counted unanswered acks acks_behind ack_of code_of kind_of rule_text digits contents_of
sweeps = record { first = refl; its_leave = refl; none = refl }

pub loads : Loads
unfolding past.membership past.tail past.last_number past.is_nacked past.latest_taken past.reference_from past.heard past.put_id past.ever_joined past.joined past.entered_at past.minimum past.reference order seq past_of is_joined last_number is_nacked reference scopes heard joined minimum last_minimum lifted unsettled message nack submission_verdict verdict ledger counted unanswered acks acks_behind ack_of code_of kind_of rule_text digits contents_of
loads = record { loaded = refl; join = refl; no_summary = refl; joined_all_the_same = refl; too_many = refl; nobody_joined = refl; full = refl }

pub goes_on : GoesOn
unfolding past.membership past.tail past.last_number past.is_nacked past.latest_taken past.reference_from past.heard past.put_id past.ever_joined past.joined past.entered_at past.minimum past.reference order seq past_of is_joined last_number is_nacked reference scopes heard joined minimum last_minimum lifted unsettled message nack submission_verdict verdict ledger counted unanswered acks acks_behind ack_of code_of kind_of rule_text digits contents_of
goes_on = record { pumped = refl; beats = refl; full = refl; nothing_entered = refl; gone = refl }
