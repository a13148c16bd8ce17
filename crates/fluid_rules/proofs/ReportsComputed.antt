-- The worked examples of reports, computed.
use Rattle.std.proofs.Common.{refl}
use Rattle.std.specs.Fmt.{digits}
use Rattle.hex.specs.Hex.{encode_with, decode_pairs}
use Rattle.json.specs.Print.{escape_byte}
use Rattle.fluid_types.specs.Contents.{body}
use Rattle.fluid_types.specs.Ledger.{order, seq}
use Rattle.fluid_types.specs.Texts.{name_of}
use Rattle.fluid_tree.specs.Ids.{id_read}
use Rattle.fluid_rules.specs.Past as past
use Rattle.fluid_rules.specs.Rules.{past_of, is_joined, last_number, is_nacked, reference, scopes, joined, minimum, unsettled, message, nack, submission_verdict, verdict, ledger}
use Rattle.fluid_rules.specs.Scribe.{proposed_by, answered_by, unanswered, ack_of, acks_behind, acks, answer_to, answer, rule_text}
use Rattle.fluid_rules.specs.ReportExamples.{NotStored, Stored, BuiltOnAnother, OnOthers, NobodyJoined}

pub not_stored : NotStored
unfolding past.membership past.tail past.last_number past.is_nacked past.latest_taken past.reference_from past.put_id past.ever_joined past.joined past.entered_at past.minimum past.reference order seq past_of is_joined last_number is_nacked reference scopes joined minimum unsettled message nack submission_verdict verdict ledger name_of body proposed_by answered_by unanswered ack_of acks_behind acks answer_to answer id_read decode_pairs encode_with rule_text escape_byte digits
not_stored = record { verdicts_are = refl; says = refl }

pub stored : Stored
unfolding past.membership past.tail past.last_number past.is_nacked past.latest_taken past.reference_from past.put_id past.ever_joined past.joined past.entered_at past.minimum past.reference order seq past_of is_joined last_number is_nacked reference scopes joined minimum unsettled message nack submission_verdict verdict ledger name_of body proposed_by answered_by unanswered ack_of acks_behind acks answer_to answer id_read decode_pairs encode_with rule_text
stored = record { verdicts_are = refl; message_is = refl }

pub built_on_another : BuiltOnAnother
unfolding past.membership past.tail past.last_number past.is_nacked past.latest_taken past.reference_from past.put_id past.ever_joined past.joined past.entered_at past.minimum past.reference order seq past_of is_joined last_number is_nacked reference scopes joined minimum unsettled message nack submission_verdict verdict ledger name_of body proposed_by answered_by unanswered ack_of acks_behind acks answer_to answer id_read decode_pairs encode_with rule_text escape_byte digits
built_on_another = record { verdict_is = refl; says = refl; whatever_is_found = refl }

pub on_others : OnOthers
unfolding past.membership past.tail past.last_number past.is_nacked past.latest_taken past.reference_from past.put_id past.ever_joined past.joined past.entered_at past.minimum past.reference order seq past_of is_joined last_number is_nacked reference scopes joined minimum unsettled message nack submission_verdict verdict ledger name_of body proposed_by answered_by unanswered ack_of acks_behind acks answer_to answer id_read decode_pairs encode_with rule_text
on_others = refl

pub nobody_joined : NobodyJoined
unfolding past.membership past.tail past.last_number past.is_nacked past.latest_taken past.reference_from past.put_id past.ever_joined past.joined past.entered_at past.minimum past.reference order seq past_of is_joined last_number is_nacked reference scopes joined minimum unsettled message nack submission_verdict verdict ledger name_of body proposed_by answered_by unanswered ack_of acks_behind acks answer_to answer id_read decode_pairs encode_with rule_text
nobody_joined = refl
