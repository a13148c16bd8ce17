-- The worked examples of lines, computed.
use Rattle.std.proofs.Common.{refl, codes, pos, []}
use Rattle.std.specs.Fmt.{digits}
use Rattle.std.specs.FinMap.{empty, get-empty}
use Rattle.hex.specs.Hex.{encode_with}
use Rattle.json.specs.Print.{escape_byte}
use Rattle.fluid_table.specs.Table.{byte_order}
use Rattle.fluid_table.proofs.Places.{get_inserted}
use Rattle.fluid_types.specs.Ledger.{order, seq}
use Rattle.fluid_types.specs.Names.{is_name}
use Rattle.fluid_types.specs.Texts.{code_of, kind_of, kind_name, rule_text, name_of}
use Rattle.fluid_types.specs.Printed.{submission_rows, raw_rows, message_rows, content_rows, nack_rows, verdict_rows}
use Rattle.fluid_rules.specs.Past as past
use Rattle.fluid_rules.specs.Counted.{counted}
use Rattle.fluid_rules.specs.Rules.{past_of, is_joined, last_number, is_nacked, reference, scopes, heard, joined, minimum, last_minimum, lifted, unsettled, message, nack, submission_verdict, verdict, ledger}
use Rattle.fluid_rules.specs.Scribe.{unanswered, acks, acks_behind, ack_of, rule_text as summary_rule}
use Rattle.fluid_codec.specs.Replies.{connected_rows, error_rows, reply_items}
use Rattle.fluid_edits.specs.Forms.{contents_of}
use Rattle.fluid_edits.specs.Replay.{a_counter}
use Rattle.fluid_steps.specs.Names.{is_script_name}
use Rattle.fluid_voice.specs.Feed.{batches}
use Rattle.fluid_transcript.specs.World.{Document, used_up}
use Rattle.fluid_transcript.specs.LineExamples.{n, Forms, Hears, Collects, Edits, Refusals, Beyond, FirstUse}

pub forms : Forms
unfolding past.membership past.tail past.last_number past.is_nacked past.latest_taken past.reference_from past.heard past.put_id past.ever_joined past.joined past.entered_at past.minimum past.reference order seq past_of is_joined last_number is_nacked reference scopes heard joined minimum last_minimum lifted unsettled message nack submission_verdict verdict ledger counted unanswered acks acks_behind ack_of code_of kind_of kind_name rule_text name_of digits contents_of connected_rows error_rows reply_items escape_byte encode_with batches summary_rule
forms = record { clash = refl; ack = refl; nack = refl; scribe_clash = refl; checkpoint = refl; large = refl; bad_summary = refl; summarized = refl; refused = refl; shown = refl }

pub hears : Hears
unfolding past.membership past.tail past.last_number past.is_nacked past.latest_taken past.reference_from past.heard past.put_id past.ever_joined past.joined past.entered_at past.minimum past.reference order seq past_of is_joined last_number is_nacked reference scopes heard joined minimum last_minimum lifted unsettled message nack submission_verdict verdict ledger counted unanswered acks acks_behind ack_of code_of kind_of kind_name rule_text name_of digits contents_of connected_rows error_rows reply_items escape_byte encode_with batches summary_rule submission_rows raw_rows message_rows content_rows nack_rows verdict_rows
hears = record { connects = refl; joins = refl; feed_begins = refl; reads = refl; too_many = refl; gap_and_full = refl }

pub collects : Collects
unfolding past.membership past.tail past.last_number past.is_nacked past.latest_taken past.reference_from past.heard past.put_id past.ever_joined past.joined past.entered_at past.minimum past.reference order seq past_of is_joined last_number is_nacked reference scopes heard joined minimum last_minimum lifted unsettled message nack submission_verdict verdict ledger counted unanswered acks acks_behind ack_of code_of kind_of kind_name rule_text name_of digits contents_of connected_rows error_rows reply_items escape_byte encode_with batches summary_rule submission_rows raw_rows message_rows content_rows nack_rows verdict_rows
collects = record { join = refl; goes_on = refl; nothing_more = refl; unconnected = refl; closes = refl }

pub edits : Edits
unfolding past.membership past.tail past.last_number past.is_nacked past.latest_taken past.reference_from past.heard past.put_id past.ever_joined past.joined past.entered_at past.minimum past.reference order seq past_of is_joined last_number is_nacked reference scopes heard joined minimum last_minimum lifted unsettled message nack submission_verdict verdict ledger counted unanswered acks acks_behind ack_of code_of kind_of kind_name rule_text name_of digits contents_of connected_rows error_rows reply_items escape_byte encode_with batches summary_rule
edits = record { no_channel = rw (get-empty byte_order n) refl; attach = rw (get-empty byte_order n) refl; largest = rw (get-empty byte_order n) (rw (get_inserted empty n (a_counter (pos 0)) n) refl); out_of_range = rw (get-empty byte_order n) (rw (get_inserted empty n (a_counter (pos 0)) n) refl); wrong_kind = rw (get-empty byte_order n) (rw (get_inserted empty n (a_counter (pos 0)) n) refl); exists = rw (get-empty byte_order n) (rw (get_inserted empty n (a_counter (pos 0)) n) refl) }

pub refusals : Refusals
unfolding past.membership past.tail past.last_number past.is_nacked past.latest_taken past.reference_from past.heard past.put_id past.ever_joined past.joined past.entered_at past.minimum past.reference order seq past_of is_joined last_number is_nacked reference scopes heard joined minimum last_minimum lifted unsettled message nack submission_verdict verdict ledger counted unanswered acks acks_behind ack_of code_of kind_of kind_name rule_text name_of digits contents_of connected_rows error_rows reply_items escape_byte encode_with batches summary_rule is_name is_script_name
refusals = record { empty_line = refl; step = refl; form = refl; no_container = rw (get-empty byte_order (codes "p")) refl; no_connection = rw (get-empty byte_order (codes "c")) refl; new_one = rw (get-empty byte_order (codes "c")) refl; used = rw (get_inserted empty (codes "c") used_up (codes "c")) refl; in_use = rw (get_inserted empty (codes "c") used_up (codes "c")) refl }

pub beyond : Beyond
unfolding past.membership past.tail past.last_number past.is_nacked past.latest_taken past.reference_from past.heard past.put_id past.ever_joined past.joined past.entered_at past.minimum past.reference order seq past_of is_joined last_number is_nacked reference scopes heard joined minimum last_minimum lifted unsettled message nack submission_verdict verdict ledger counted unanswered acks acks_behind ack_of code_of kind_of kind_name rule_text name_of digits contents_of connected_rows error_rows reply_items escape_byte encode_with batches summary_rule
beyond = record { count = refl; sweep = refl; tasks = refl; load = refl }

pub first_use : FirstUse
unfolding past.membership past.tail past.last_number past.is_nacked past.latest_taken past.reference_from past.heard past.put_id past.ever_joined past.joined past.entered_at past.minimum past.reference order seq past_of is_joined last_number is_nacked reference scopes heard joined minimum last_minimum lifted unsettled message nack submission_verdict verdict ledger counted unanswered acks acks_behind ack_of code_of kind_of kind_name rule_text name_of digits contents_of connected_rows error_rows reply_items escape_byte encode_with batches summary_rule is_name is_script_name
first_use = record { count = rw (get-empty byte_order (codes "d")) (rw (get_inserted {V = Document} empty (codes "d") (record { raws = []; checkpoints = [] }) (codes "d")) refl) }
