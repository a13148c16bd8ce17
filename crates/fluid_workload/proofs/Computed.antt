-- The worked examples, computed.
use Rattle.std.proofs.Common.{refl}
use Rattle.std.specs.Fmt.{digits}
use Rattle.std.specs.FinMap.{empty, get-empty}
use Rattle.hex.specs.Hex.{encode_with}
use Rattle.fluid_table.specs.Table.{byte_order}
use Rattle.fluid_table.proofs.Places.{get_own, get_inserted}
use Rattle.fluid_types.specs.Ledger.{order, seq}
use Rattle.fluid_rules.specs.Past as past
use Rattle.fluid_rules.specs.Rules.{past_of, is_joined, last_number, is_nacked, reference, scopes, heard, client, joined, minimum, last_minimum, lifted, unsettled, message, nack, submission_verdict, verdict, ledger}
use Rattle.fluid_rules.specs.Scribe.{unanswered, acks, acks_behind, ack_of}
use Rattle.fluid_edits.specs.Forms.{contents_of}
use Rattle.fluid_workload.specs.Working.{work, named}
use Rattle.fluid_workload.specs.Examples.{document_at, writer, set, Submits, Writes}

pub lines : Writes
unfolding past.membership past.tail past.last_number past.is_nacked past.latest_taken past.reference_from past.heard past.put_id past.ever_joined past.joined past.entered_at past.minimum past.reference past.client order seq past_of is_joined last_number is_nacked reference scopes heard client joined minimum last_minimum lifted unsettled message nack submission_verdict verdict ledger unanswered acks acks_behind ack_of digits contents_of encode_with
lines = record { lines = refl; different = refl }

pub submissions : Submits
unfolding past.membership past.tail past.last_number past.is_nacked past.latest_taken past.reference_from past.heard past.put_id past.ever_joined past.joined past.entered_at past.minimum past.reference past.client order seq past_of is_joined last_number is_nacked reference scopes heard client joined minimum last_minimum lifted unsettled message nack submission_verdict verdict ledger unanswered acks acks_behind ack_of digits contents_of encode_with
submissions = record {
  noop_is = rw (get_own empty (named 0) writer) refl;
  set_is = rw (get_own empty (named 0) writer, get_own empty work (document_at 5)) refl;
  again_is = rw (get_own empty (named 0) writer, get_own empty (named 0) set) refl;
  gap_is = rw (get_own empty (named 0) writer, get_own empty work (document_at 7)) refl;
  increment_is = rw (get_own empty (named 0) writer, get_own empty work (document_at 8)) refl;
  nobody = rw (get_inserted empty (named 0) writer (named 1), get-empty byte_order (named 1)) refl;
}
