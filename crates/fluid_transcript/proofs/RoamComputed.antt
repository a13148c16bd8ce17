-- The worked examples of roamers, computed.
use Rattle.std.proofs.Common.{refl}
use Rattle.std.specs.Fmt.{digits}
use Rattle.fluid_types.specs.Ledger.{order, seq}
use Rattle.fluid_types.specs.Texts.{code_of, kind_of, rule_text}
use Rattle.fluid_rules.specs.Past as past
use Rattle.fluid_rules.specs.Counted.{counted}
use Rattle.fluid_rules.specs.Rules.{past_of, is_joined, last_number, is_nacked, reference, scopes, heard, joined, minimum, last_minimum, lifted, unsettled, message, nack, submission_verdict, verdict, ledger}
use Rattle.fluid_rules.specs.Scribe.{unanswered, acks, acks_behind, ack_of}
use Rattle.fluid_edits.specs.Forms.{contents_of}
use Rattle.std.specs.FinMap.{empty, get-empty}
use Rattle.fluid_table.specs.Table.{byte_order}
use Rattle.fluid_table.proofs.Places.{get_own}
use Rattle.fluid_steps.specs.Names.{is_script_name}
use Rattle.fluid_transcript.specs.World.{roamer}
use Rattle.fluid_transcript.specs.Roamers.{sending}
use Rattle.fluid_transcript.specs.RoamExamples.{r, roaming, away, Comes, Says, Returns, Acks, Refuses}

pub comes : Comes
unfolding past.membership past.tail past.last_number past.is_nacked past.latest_taken past.reference_from past.heard past.put_id past.ever_joined past.joined past.entered_at past.minimum past.reference order seq past_of is_joined last_number is_nacked reference scopes heard joined minimum last_minimum lifted unsettled message nack submission_verdict verdict ledger counted unanswered acks acks_behind ack_of code_of kind_of rule_text digits contents_of sending
comes = record { line = refl; entry = refl; name = refl; refused = refl; used = refl }

pub says : Says
unfolding past.membership past.tail past.last_number past.is_nacked past.latest_taken past.reference_from past.heard past.put_id past.ever_joined past.joined past.entered_at past.minimum past.reference order seq past_of is_joined last_number is_nacked reference scopes heard joined minimum last_minimum lifted unsettled message nack submission_verdict verdict ledger counted unanswered acks acks_behind ack_of code_of kind_of rule_text digits contents_of sending
says = record { line = refl; entry = refl; lost_line = refl; waits_line = refl; no_entry = refl; waits = refl; full_line = refl; full = refl }

pub returns : Returns
unfolding past.membership past.tail past.last_number past.is_nacked past.latest_taken past.reference_from past.heard past.put_id past.ever_joined past.joined past.entered_at past.minimum past.reference order seq past_of is_joined last_number is_nacked reference scopes heard joined minimum last_minimum lifted unsettled message nack submission_verdict verdict ledger counted unanswered acks acks_behind ack_of code_of kind_of rule_text digits contents_of sending
returns = record { line = refl; entries = refl; name = refl; refused = refl; leave = refl; same = refl; cut_line = refl; cut = refl }

pub are_acked : Acks
unfolding past.membership past.tail past.last_number past.is_nacked past.latest_taken past.reference_from past.heard past.put_id past.ever_joined past.joined past.entered_at past.minimum past.reference order seq past_of is_joined last_number is_nacked reference scopes heard joined minimum last_minimum lifted unsettled message nack submission_verdict verdict ledger counted unanswered acks acks_behind ack_of code_of kind_of rule_text digits contents_of sending
are_acked = record { line = refl; name = refl }

pub refuses : Refuses
unfolding is_script_name
refuses = record {
  nobody = rw (get-empty byte_order r) refl;
  back = rw (get_own empty r (roamer roaming)) refl;
  lose = rw (get_own empty r (roamer away)) refl;
  comes_back = rw (get_own empty r (roamer away)) refl;
  is_lost = rw (get_own empty r (roamer roaming)) refl;
  pump = rw (get_own empty r (roamer roaming)) refl;
  show = rw (get_own empty r (roamer roaming)) refl;
}
