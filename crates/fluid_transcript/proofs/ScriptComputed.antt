-- The worked scripts, computed.
use Rattle.std.proofs.Common.{◌≡◌, ℕ, List, [], ◌∷◌, Ok, Some, None, codes, refl, sym, ap, length, ◌∙◌}
use Rattle.std.specs.Fmt.{digits}
use Rattle.std.specs.FinMap.{FinMap, empty, insert, entries, get-empty, len-empty, len-entries}
use Rattle.json.specs.Json.{items, members, value}
use Rattle.json.specs.Lex.{lex, punctuate}
use Rattle.json.specs.Text.{content}
use Rattle.json.specs.Word.{after_number, word}
use Rattle.json.specs.Print.{escape_byte}
use Rattle.serde_json.specs.Read.{number_of}
use Rattle.fast_float.specs.Text.{scan}
use Rattle.hex.specs.Hex.{encode_with, decode_pairs}
use Rattle.fluid_table.specs.Table.{byte_order}
use Rattle.fluid_table.proofs.Places.{get_own, insert_again}
use Rattle.fluid_json.specs.Tree.{null}
use Rattle.fluid_json.specs.Spelled.{reaches, answer_within}
use Rattle.fluid_types.specs.declared.entries.Raw.{Raw}
use Rattle.fluid_types.specs.declared.entries.Raw.TheVariants.{Join, Leave, Submit}
use Rattle.fluid_types.specs.declared.entries.Offered.TheVariants.{Op, Noop}
use Rattle.fluid_types.specs.Ledger.{order, seq}
use Rattle.fluid_types.specs.Names.{is_name}
use Rattle.fluid_types.specs.Texts.{code_of, kind_of, rule_text, name_of}
use Rattle.fluid_rules.specs.Past as past
use Rattle.fluid_rules.specs.Counted.{counted}
use Rattle.fluid_rules.specs.Rules.{past_of, is_joined, last_number, is_nacked, reference, scopes, heard, joined, minimum, last_minimum, lifted, unsettled, message, nack, submission_verdict, verdict, ledger}
use Rattle.fluid_rules.specs.Scribe.{unanswered, acks, acks_behind, ack_of, answer, answer_to, proposed_by, answered_by, rule_text as summary_rule}
use Rattle.fluid_words.specs.Numbers.{is_decimal}
use Rattle.fluid_edits.specs.declared.edit.Edit.TheVariants.{Attach, Clear}
use Rattle.fluid_edits.specs.declared.edit.ChannelKind.TheVariants.{Map}
use Rattle.fluid_edits.specs.Forms.{edit_in, contents_of}
use Rattle.fluid_edits.specs.Replay.{Channel, a_map, no_channels}
use Rattle.fluid_tree.specs.Ids.{id_read}
use Rattle.fluid_types.specs.Contents.{body}
use Rattle.fluid_scribe.specs.Jobs.{job_of}
use Rattle.fluid_store.specs.Complete.{is_complete}
use Rattle.fluid_loader.specs.declared.link.Pick.TheVariants as pick
use Rattle.fluid_loader.specs.Submitting.{numbered}
use Rattle.fluid_steps.specs.Names.{is_script_name}
use Rattle.fluid_steps.specs.declared.steps.Step.TheVariants.{Load, Edit, Beat, Sweep, Reopen}
use Rattle.fluid_voice.specs.declared.states.VoiceState.TheVariants.{Writing}
use Rattle.fluid_transcript.specs.World.{Name, World, Container, connection, container, Told, Effect, new_document}
use Rattle.fluid_transcript.specs.Containers.{all_scopes}
use Rattle.fluid_transcript.specs.Transcript.{taken}
use Rattle.fluid_transcript.specs.Examples.{few, d}
use Rattle.fluid_transcript.specs.LineExamples.{id}
use Rattle.fluid_transcript.specs.ScriptExamples.{at_first, with_one, from_nothing, SweepScript, ReopenScript, Last, Closes, LoadNames, Again, Pumps, Stores, Summarizes, Scribes}
use Rattle.fluid_transcript.proofs.OneLine.{on_first, on_one, and_then, and_behind}

-- a step that writes one line, and adds entries
abbrev adds : List Raw → List ℕ → Effect
adds raws line = record { entries = raws; checkpoints = []; store = empty; name = None; lines = line ∷ [] }

abbrev names : List Raw → List ℕ → Container → List ℕ → Effect
names raws p k line = record { entries = raws; checkpoints = []; store = empty; name = Some (p, container k); lines = line ∷ [] }

abbrev written : World → List ℕ → Told
written w line = record { world = w; lines = line ∷ [] }

abbrev a : List ℕ
a = codes "a"

abbrev b : List ℕ
b = codes "b"

-- ---- sweeps

abbrev join_a : Raw
join_a = Join (codes "c0") all_scopes null 1

abbrev join_b : Raw
join_b = Join (codes "c1") all_scopes null 2

abbrev beat_b : Raw
beat_b = Submit (codes "c1") (numbered 1 2 Noop null) 3

abbrev with_a : FinMap byte_order Name
with_a = insert empty a (container (from_nothing 0 1))

abbrev with_b : FinMap byte_order Name
with_b = insert with_a b (container (from_nothing 1 2))

sweep_1 : taken few at_first (codes "load a d none") ≡ written (with_one 1 (join_a ∷ []) with_a) (codes "a loaded d at 1")
unfolding past.membership past.tail past.last_number past.is_nacked past.latest_taken past.reference_from past.heard past.put_id past.ever_joined past.joined past.entered_at past.minimum past.reference order seq past_of is_joined last_number is_nacked reference scopes heard joined minimum last_minimum lifted unsettled message nack submission_verdict verdict ledger counted unanswered acks acks_behind ack_of code_of kind_of rule_text digits contents_of is_name is_script_name is_decimal
sweep_1 = on_first few (codes "load a d none") (Load a d pick.Empty) (names (join_a ∷ []) a (from_nothing 0 1) (codes "a loaded d at 1")) refl refl refl refl refl refl refl

sweep_2 : taken few (with_one 1 (join_a ∷ []) with_a) (codes "load b d none") ≡ written (with_one 2 (join_a ∷ join_b ∷ []) with_b) (codes "b loaded d at 2")
unfolding past.membership past.tail past.last_number past.is_nacked past.latest_taken past.reference_from past.heard past.put_id past.ever_joined past.joined past.entered_at past.minimum past.reference order seq past_of is_joined last_number is_nacked reference scopes heard joined minimum last_minimum lifted unsettled message nack submission_verdict verdict ledger counted unanswered acks acks_behind ack_of code_of kind_of rule_text digits contents_of is_name is_script_name is_decimal
sweep_2 = on_one few 1 (join_a ∷ []) with_a (codes "load b d none") (Load b d pick.Empty) (names (join_b ∷ []) b (from_nothing 1 2) (codes "b loaded d at 2")) refl refl refl refl refl refl

sweep_3 : taken few (with_one 2 (join_a ∷ join_b ∷ []) with_b) (codes "beat b") ≡ written (with_one 3 (join_a ∷ join_b ∷ beat_b ∷ []) with_b) (codes "b beats at 2")
unfolding past.membership past.tail past.last_number past.is_nacked past.latest_taken past.reference_from past.heard past.put_id past.ever_joined past.joined past.entered_at past.minimum past.reference order seq past_of is_joined last_number is_nacked reference scopes heard joined minimum last_minimum lifted unsettled message nack submission_verdict verdict ledger counted unanswered acks acks_behind ack_of code_of kind_of rule_text digits contents_of is_name is_script_name is_decimal
sweep_3 =
    on_one few 2 (join_a ∷ join_b ∷ []) with_b (codes "beat b") (Beat b) (names (beat_b ∷ []) b (from_nothing 1 2) (codes "b beats at 2")) refl refl
    (rw (get_own with_a b (container (from_nothing 1 2))) refl) (rw (get_own with_a b (container (from_nothing 1 2))) refl) refl refl
    ∙ ap (λ names. written (with_one 3 (join_a ∷ join_b ∷ beat_b ∷ []) names) (codes "b beats at 2")) (insert_again with_a b (container (from_nothing 1 2)) (container (from_nothing 1 2)))

sweep_4 : taken few (with_one 3 (join_a ∷ join_b ∷ beat_b ∷ []) with_b) (codes "sweep d 2") ≡ written (with_one 4 (join_a ∷ join_b ∷ beat_b ∷ Leave (codes "c0") 4 ∷ []) with_b) (codes "d swept c0")
unfolding past.membership past.tail past.last_number past.is_nacked past.latest_taken past.reference_from past.heard past.put_id past.ever_joined past.joined past.entered_at past.minimum past.reference order seq past_of is_joined last_number is_nacked reference scopes heard joined minimum last_minimum lifted unsettled message nack submission_verdict verdict ledger counted unanswered acks acks_behind ack_of code_of kind_of rule_text digits contents_of is_name is_script_name is_decimal
sweep_4 = on_one few 3 (join_a ∷ join_b ∷ beat_b ∷ []) with_b (codes "sweep d 2") (Sweep d 2) (adds (Leave (codes "c0") 4 ∷ []) (codes "d swept c0")) refl refl refl refl refl refl

sweep_5 : taken few (with_one 4 (join_a ∷ join_b ∷ beat_b ∷ Leave (codes "c0") 4 ∷ []) with_b) (codes "sweep d 2") ≡ written (with_one 5 (join_a ∷ join_b ∷ beat_b ∷ Leave (codes "c0") 4 ∷ []) with_b) (codes "d swept none")
unfolding past.membership past.tail past.last_number past.is_nacked past.latest_taken past.reference_from past.heard past.put_id past.ever_joined past.joined past.entered_at past.minimum past.reference order seq past_of is_joined last_number is_nacked reference scopes heard joined minimum last_minimum lifted unsettled message nack submission_verdict verdict ledger counted unanswered acks acks_behind ack_of code_of kind_of rule_text digits contents_of is_name is_script_name is_decimal
sweep_5 = on_one few 4 (join_a ∷ join_b ∷ beat_b ∷ Leave (codes "c0") 4 ∷ []) with_b (codes "sweep d 2") (Sweep d 2) (adds [] (codes "d swept none")) refl refl refl refl refl refl

sweep_6 : taken few (with_one 5 (join_a ∷ join_b ∷ beat_b ∷ Leave (codes "c0") 4 ∷ []) with_b) (codes "sweep d 2")
    ≡ written (with_one 6 (join_a ∷ join_b ∷ beat_b ∷ Leave (codes "c0") 4 ∷ Leave (codes "c1") 6 ∷ []) with_b) (codes "d swept c1")
unfolding past.membership past.tail past.last_number past.is_nacked past.latest_taken past.reference_from past.heard past.put_id past.ever_joined past.joined past.entered_at past.minimum past.reference order seq past_of is_joined last_number is_nacked reference scopes heard joined minimum last_minimum lifted unsettled message nack submission_verdict verdict ledger counted unanswered acks acks_behind ack_of code_of kind_of rule_text digits contents_of is_name is_script_name is_decimal
sweep_6 = on_one few 5 (join_a ∷ join_b ∷ beat_b ∷ Leave (codes "c0") 4 ∷ []) with_b (codes "sweep d 2") (Sweep d 2) (adds (Leave (codes "c1") 6 ∷ []) (codes "d swept c1")) refl refl refl refl refl refl

pub sweep_script : SweepScript
sweep_script = record {
  lines =
      and_then few at_first (with_one 1 (join_a ∷ []) with_a) (codes "load a d none") ((codes "load b d none") ∷ (codes "beat b") ∷ (codes "sweep d 2") ∷ (codes "sweep d 2") ∷ (codes "sweep d 2") ∷ []) (codes "a loaded d at 1" ∷ []) (codes "b loaded d at 2" ∷ codes "b beats at 2" ∷ codes "d swept c0" ∷ codes "d swept none" ∷ codes "d swept c1" ∷ []) sweep_1 (and_then few (with_one 1 (join_a ∷ []) with_a) (with_one 2 (join_a ∷ join_b ∷ []) with_b) (codes "load b d none") ((codes "beat b") ∷ (codes "sweep d 2") ∷ (codes "sweep d 2") ∷ (codes "sweep d 2") ∷ []) (codes "b loaded d at 2" ∷ []) (codes "b beats at 2" ∷ codes "d swept c0" ∷ codes "d swept none" ∷ codes "d swept c1" ∷ []) sweep_2 (and_then few (with_one 2 (join_a ∷ join_b ∷ []) with_b) (with_one 3 (join_a ∷ join_b ∷ beat_b ∷ []) with_b) (codes "beat b") ((codes "sweep d 2") ∷ (codes "sweep d 2") ∷ (codes "sweep d 2") ∷ []) (codes "b beats at 2" ∷ []) (codes "d swept c0" ∷ codes "d swept none" ∷ codes "d swept c1" ∷ []) sweep_3 (and_then few (with_one 3 (join_a ∷ join_b ∷ beat_b ∷ []) with_b) (with_one 4 (join_a ∷ join_b ∷ beat_b ∷ Leave (codes "c0") 4 ∷ []) with_b) (codes "sweep d 2") ((codes "sweep d 2") ∷ (codes "sweep d 2") ∷ []) (codes "d swept c0" ∷ []) (codes "d swept none" ∷ codes "d swept c1" ∷ []) sweep_4 (and_then few (with_one 4 (join_a ∷ join_b ∷ beat_b ∷ Leave (codes "c0") 4 ∷ []) with_b) (with_one 5 (join_a ∷ join_b ∷ beat_b ∷ Leave (codes "c0") 4 ∷ []) with_b) (codes "sweep d 2") ((codes "sweep d 2") ∷ []) (codes "d swept none" ∷ []) (codes "d swept c1" ∷ []) sweep_5 (and_then few (with_one 5 (join_a ∷ join_b ∷ beat_b ∷ Leave (codes "c0") 4 ∷ []) with_b) (with_one 6 (join_a ∷ join_b ∷ beat_b ∷ Leave (codes "c0") 4 ∷ Leave (codes "c1") 6 ∷ []) with_b) (codes "sweep d 2") ([]) (codes "d swept c1" ∷ []) ([]) sweep_6 refl)))));
  world =
      and_behind few at_first (with_one 1 (join_a ∷ []) with_a) (with_one 6 (join_a ∷ join_b ∷ beat_b ∷ Leave (codes "c0") 4 ∷ Leave (codes "c1") 6 ∷ []) with_b) (codes "load a d none") ((codes "load b d none") ∷ (codes "beat b") ∷ (codes "sweep d 2") ∷ (codes "sweep d 2") ∷ (codes "sweep d 2") ∷ []) (codes "a loaded d at 1" ∷ []) sweep_1 (and_behind few (with_one 1 (join_a ∷ []) with_a) (with_one 2 (join_a ∷ join_b ∷ []) with_b) (with_one 6 (join_a ∷ join_b ∷ beat_b ∷ Leave (codes "c0") 4 ∷ Leave (codes "c1") 6 ∷ []) with_b) (codes "load b d none") ((codes "beat b") ∷ (codes "sweep d 2") ∷ (codes "sweep d 2") ∷ (codes "sweep d 2") ∷ []) (codes "b loaded d at 2" ∷ []) sweep_2 (and_behind few (with_one 2 (join_a ∷ join_b ∷ []) with_b) (with_one 3 (join_a ∷ join_b ∷ beat_b ∷ []) with_b) (with_one 6 (join_a ∷ join_b ∷ beat_b ∷ Leave (codes "c0") 4 ∷ Leave (codes "c1") 6 ∷ []) with_b) (codes "beat b") ((codes "sweep d 2") ∷ (codes "sweep d 2") ∷ (codes "sweep d 2") ∷ []) (codes "b beats at 2" ∷ []) sweep_3 (and_behind few (with_one 3 (join_a ∷ join_b ∷ beat_b ∷ []) with_b) (with_one 4 (join_a ∷ join_b ∷ beat_b ∷ Leave (codes "c0") 4 ∷ []) with_b) (with_one 6 (join_a ∷ join_b ∷ beat_b ∷ Leave (codes "c0") 4 ∷ Leave (codes "c1") 6 ∷ []) with_b) (codes "sweep d 2") ((codes "sweep d 2") ∷ (codes "sweep d 2") ∷ []) (codes "d swept c0" ∷ []) sweep_4 (and_behind few (with_one 4 (join_a ∷ join_b ∷ beat_b ∷ Leave (codes "c0") 4 ∷ []) with_b) (with_one 5 (join_a ∷ join_b ∷ beat_b ∷ Leave (codes "c0") 4 ∷ []) with_b) (with_one 6 (join_a ∷ join_b ∷ beat_b ∷ Leave (codes "c0") 4 ∷ Leave (codes "c1") 6 ∷ []) with_b) (codes "sweep d 2") ((codes "sweep d 2") ∷ []) (codes "d swept none" ∷ []) sweep_5 (and_behind few (with_one 5 (join_a ∷ join_b ∷ beat_b ∷ Leave (codes "c0") 4 ∷ []) with_b) (with_one 6 (join_a ∷ join_b ∷ beat_b ∷ Leave (codes "c0") 4 ∷ Leave (codes "c1") 6 ∷ []) with_b) (with_one 6 (join_a ∷ join_b ∷ beat_b ∷ Leave (codes "c0") 4 ∷ Leave (codes "c1") 6 ∷ []) with_b) (codes "sweep d 2") ([]) (codes "d swept c1" ∷ []) sweep_6 refl)))));
}

-- ---- reopen

abbrev m : List ℕ
m = codes "m"

abbrev q : List ℕ
q = codes "p"

abbrev with_p : FinMap byte_order Name
with_p = insert empty q (container (from_nothing 0 1))

abbrev attaching : Container
attaching = record (from_nothing 0 1) { pending = Attach m Map ∷ [] }

abbrev with_edit : FinMap byte_order Name
with_edit = insert empty q (container attaching)

abbrev attach_m : Raw
attach_m = Submit (codes "c0") (numbered 1 1 Op (contents_of (Attach m Map))) 2

abbrev clear_m : Raw
clear_m = Submit (codes "c0") (numbered 2 1 Op (contents_of (Clear m))) 4

reopen_1 : taken few at_first (codes "load p d none") ≡ written (with_one 1 (join_a ∷ []) with_p) (codes "p loaded d at 1")
unfolding past.membership past.tail past.last_number past.is_nacked past.latest_taken past.reference_from past.heard past.put_id past.ever_joined past.joined past.entered_at past.minimum past.reference order seq past_of is_joined last_number is_nacked reference scopes heard joined minimum last_minimum lifted unsettled message nack submission_verdict verdict ledger counted unanswered acks acks_behind ack_of code_of kind_of rule_text digits contents_of is_name is_script_name is_decimal
reopen_1 = on_first few (codes "load p d none") (Load q d pick.Empty) (names (join_a ∷ []) q (from_nothing 0 1) (codes "p loaded d at 1")) refl refl refl refl refl refl refl

reopen_2 : taken few (with_one 1 (join_a ∷ []) with_p) (codes "edit p {\"type\":\"attach\",\"address\":\"m\",\"kind\":\"map\"}") ≡ written (with_one 2 (join_a ∷ attach_m ∷ []) with_edit) (codes "p edited")
unfolding past.membership past.tail past.last_number past.is_nacked past.latest_taken past.reference_from past.heard past.put_id past.ever_joined past.joined past.entered_at past.minimum past.reference order seq past_of is_joined last_number is_nacked reference scopes heard joined minimum last_minimum lifted unsettled message nack submission_verdict verdict ledger counted unanswered acks acks_behind ack_of code_of kind_of rule_text digits contents_of is_name is_script_name is_decimal items members value lex punctuate content after_number word number_of scan reaches answer_within edit_in
reopen_2 =
    on_one few 1 (join_a ∷ []) with_p (codes "edit p {\"type\":\"attach\",\"address\":\"m\",\"kind\":\"map\"}") (Edit q (Ok (Attach m Map))) (names (attach_m ∷ []) q attaching (codes "p edited")) refl refl
    (rw (get_own empty q (container (from_nothing 0 1))) refl) (rw (get_own empty q (container (from_nothing 0 1))) (rw (get-empty byte_order m) refl)) refl refl
    ∙ ap (λ names. written (with_one 2 (join_a ∷ attach_m ∷ []) names) (codes "p edited")) (insert_again empty q (container (from_nothing 0 1)) (container attaching))

reopen_3 : taken few (with_one 2 (join_a ∷ attach_m ∷ []) with_edit) (codes "reopen d") ≡ written (with_one 3 (join_a ∷ attach_m ∷ Leave (codes "c0") 3 ∷ []) with_edit) (codes "d reopened: 3 entries, number 3, minimum 3")
unfolding past.membership past.tail past.last_number past.is_nacked past.latest_taken past.reference_from past.heard past.put_id past.ever_joined past.joined past.entered_at past.minimum past.reference order seq past_of is_joined last_number is_nacked reference scopes heard joined minimum last_minimum lifted unsettled message nack submission_verdict verdict ledger counted unanswered acks acks_behind ack_of code_of kind_of rule_text digits contents_of is_name is_script_name is_decimal
reopen_3 = on_one few 2 (join_a ∷ attach_m ∷ []) with_edit (codes "reopen d") (Reopen d) (adds (Leave (codes "c0") 3 ∷ []) (codes "d reopened: 3 entries, number 3, minimum 3")) refl refl refl refl refl refl

reopen_4 : taken few (with_one 3 (join_a ∷ attach_m ∷ Leave (codes "c0") 3 ∷ []) with_edit) (codes "edit p {\"address\":\"m\",\"contents\":{\"type\":\"clear\"}}")
    ≡ written (with_one 4 (join_a ∷ attach_m ∷ Leave (codes "c0") 3 ∷ clear_m ∷ []) with_edit) (codes "p refused 400: Nonexistent client")
unfolding past.membership past.tail past.last_number past.is_nacked past.latest_taken past.reference_from past.heard past.put_id past.ever_joined past.joined past.entered_at past.minimum past.reference order seq past_of is_joined last_number is_nacked reference scopes heard joined minimum last_minimum lifted unsettled message nack submission_verdict verdict ledger counted unanswered acks acks_behind ack_of code_of kind_of rule_text digits contents_of is_name is_script_name is_decimal items members value lex punctuate content after_number word number_of scan reaches answer_within edit_in
reopen_4 =
    on_one few 3 (join_a ∷ attach_m ∷ Leave (codes "c0") 3 ∷ []) with_edit (codes "edit p {\"address\":\"m\",\"contents\":{\"type\":\"clear\"}}") (Edit q (Ok (Clear m))) (names (clear_m ∷ []) q attaching (codes "p refused 400: Nonexistent client")) refl refl
    (rw (get_own empty q (container attaching)) refl) (rw (get_own empty q (container attaching)) (rw (get-empty byte_order m) (rw (get_own empty m (a_map empty)) refl))) refl refl
    ∙ ap (λ names. written (with_one 4 (join_a ∷ attach_m ∷ Leave (codes "c0") 3 ∷ clear_m ∷ []) names) (codes "p refused 400: Nonexistent client")) (insert_again empty q (container attaching) (container attaching))

pub reopen_script : ReopenScript
reopen_script = record {
  lines =
      and_then few at_first (with_one 1 (join_a ∷ []) with_p) (codes "load p d none") ((codes "edit p {\"type\":\"attach\",\"address\":\"m\",\"kind\":\"map\"}") ∷ (codes "reopen d") ∷ (codes "edit p {\"address\":\"m\",\"contents\":{\"type\":\"clear\"}}") ∷ []) (codes "p loaded d at 1" ∷ []) (codes "p edited" ∷ codes "d reopened: 3 entries, number 3, minimum 3" ∷ codes "p refused 400: Nonexistent client" ∷ []) reopen_1 (and_then few (with_one 1 (join_a ∷ []) with_p) (with_one 2 (join_a ∷ attach_m ∷ []) with_edit) (codes "edit p {\"type\":\"attach\",\"address\":\"m\",\"kind\":\"map\"}") ((codes "reopen d") ∷ (codes "edit p {\"address\":\"m\",\"contents\":{\"type\":\"clear\"}}") ∷ []) (codes "p edited" ∷ []) (codes "d reopened: 3 entries, number 3, minimum 3" ∷ codes "p refused 400: Nonexistent client" ∷ []) reopen_2 (and_then few (with_one 2 (join_a ∷ attach_m ∷ []) with_edit) (with_one 3 (join_a ∷ attach_m ∷ Leave (codes "c0") 3 ∷ []) with_edit) (codes "reopen d") ((codes "edit p {\"address\":\"m\",\"contents\":{\"type\":\"clear\"}}") ∷ []) (codes "d reopened: 3 entries, number 3, minimum 3" ∷ []) (codes "p refused 400: Nonexistent client" ∷ []) reopen_3 (and_then few (with_one 3 (join_a ∷ attach_m ∷ Leave (codes "c0") 3 ∷ []) with_edit) (with_one 4 (join_a ∷ attach_m ∷ Leave (codes "c0") 3 ∷ clear_m ∷ []) with_edit) (codes "edit p {\"address\":\"m\",\"contents\":{\"type\":\"clear\"}}") ([]) (codes "p refused 400: Nonexistent client" ∷ []) ([]) reopen_4 refl)));
  world =
      and_behind few at_first (with_one 1 (join_a ∷ []) with_p) (with_one 4 (join_a ∷ attach_m ∷ Leave (codes "c0") 3 ∷ clear_m ∷ []) with_edit) (codes "load p d none") ((codes "edit p {\"type\":\"attach\",\"address\":\"m\",\"kind\":\"map\"}") ∷ (codes "reopen d") ∷ (codes "edit p {\"address\":\"m\",\"contents\":{\"type\":\"clear\"}}") ∷ []) (codes "p loaded d at 1" ∷ []) reopen_1 (and_behind few (with_one 1 (join_a ∷ []) with_p) (with_one 2 (join_a ∷ attach_m ∷ []) with_edit) (with_one 4 (join_a ∷ attach_m ∷ Leave (codes "c0") 3 ∷ clear_m ∷ []) with_edit) (codes "edit p {\"type\":\"attach\",\"address\":\"m\",\"kind\":\"map\"}") ((codes "reopen d") ∷ (codes "edit p {\"address\":\"m\",\"contents\":{\"type\":\"clear\"}}") ∷ []) (codes "p edited" ∷ []) reopen_2 (and_behind few (with_one 2 (join_a ∷ attach_m ∷ []) with_edit) (with_one 3 (join_a ∷ attach_m ∷ Leave (codes "c0") 3 ∷ []) with_edit) (with_one 4 (join_a ∷ attach_m ∷ Leave (codes "c0") 3 ∷ clear_m ∷ []) with_edit) (codes "reopen d") ((codes "edit p {\"address\":\"m\",\"contents\":{\"type\":\"clear\"}}") ∷ []) (codes "d reopened: 3 entries, number 3, minimum 3" ∷ []) reopen_3 (and_behind few (with_one 3 (join_a ∷ attach_m ∷ Leave (codes "c0") 3 ∷ []) with_edit) (with_one 4 (join_a ∷ attach_m ∷ Leave (codes "c0") 3 ∷ clear_m ∷ []) with_edit) (with_one 4 (join_a ∷ attach_m ∷ Leave (codes "c0") 3 ∷ clear_m ∷ []) with_edit) (codes "edit p {\"address\":\"m\",\"contents\":{\"type\":\"clear\"}}") ([]) (codes "p refused 400: Nonexistent client" ∷ []) reopen_4 refl)));
}

-- ---- others

no_items : {X : Type 0} (xs : List X) → length xs ≡ 0 → xs ≡ []
no_items [] h = refl
no_items (x ∷ xs) h = absurd (cc)

-- an empty map has no entries
none_entered : entries (no_channels) ≡ []
none_entered = no_items (entries no_channels) (sym (len-entries no_channels) ∙ len-empty byte_order Channel)

pub last : Last
unfolding past.membership past.tail past.last_number past.is_nacked past.latest_taken past.reference_from past.heard past.put_id past.ever_joined past.joined past.entered_at past.minimum past.reference order seq past_of is_joined last_number is_nacked reference scopes heard joined minimum last_minimum lifted unsettled message nack submission_verdict verdict ledger counted unanswered acks acks_behind ack_of code_of kind_of rule_text digits contents_of escape_byte
last = record { shows = rw (get-empty byte_order d) (rw (get_own empty d new_document) (rw none_entered refl)) }

pub closes : Closes
closes = record { leave = rw (get_own empty (codes "c") (connection (Writing d (codes "c0") 1))) refl; used = refl }

pub load_names : LoadNames
unfolding past.membership past.tail past.last_number past.is_nacked past.latest_taken past.reference_from past.heard past.put_id past.ever_joined past.joined past.entered_at past.minimum past.reference order seq past_of is_joined last_number is_nacked reference scopes heard joined minimum last_minimum lifted unsettled message nack submission_verdict verdict ledger counted unanswered acks acks_behind ack_of code_of kind_of rule_text digits contents_of
load_names = record { refused = refl; none = refl; loaded = refl }

pub again : Again
unfolding past.membership past.tail past.last_number past.is_nacked past.latest_taken past.reference_from past.heard past.put_id past.ever_joined past.joined past.entered_at past.minimum past.reference order seq past_of is_joined last_number is_nacked reference scopes heard joined minimum last_minimum lifted unsettled message nack submission_verdict verdict ledger counted unanswered acks acks_behind ack_of code_of kind_of rule_text digits contents_of
again = record { line = refl; entry = refl }

pub pumps : Pumps
unfolding past.membership past.tail past.last_number past.is_nacked past.latest_taken past.reference_from past.heard past.put_id past.ever_joined past.joined past.entered_at past.minimum past.reference order seq past_of is_joined last_number is_nacked reference scopes heard joined minimum last_minimum lifted unsettled message nack submission_verdict verdict ledger counted unanswered acks acks_behind ack_of code_of kind_of rule_text digits contents_of
pumps = record { container_is = refl }

pub stores : Stores
unfolding digits
stores = record { line = refl; count = refl; large = refl; none = refl }

pub summarizes : Summarizes
unfolding past.membership past.tail past.last_number past.is_nacked past.latest_taken past.reference_from past.heard past.put_id past.ever_joined past.joined past.entered_at past.minimum past.reference order seq past_of is_joined last_number is_nacked reference scopes heard joined minimum last_minimum lifted unsettled message nack submission_verdict verdict ledger counted unanswered acks acks_behind ack_of code_of kind_of rule_text digits contents_of encode_with
summarizes = record { line = refl; entry = refl; kept = refl; clash_line = refl; no_entry = refl; still_held = refl }

pub scribes : Scribes
unfolding past.membership past.tail past.last_number past.is_nacked past.latest_taken past.reference_from past.heard past.put_id past.ever_joined past.joined past.entered_at past.minimum past.reference order seq past_of is_joined last_number is_nacked reference scopes heard joined minimum last_minimum lifted unsettled message nack submission_verdict verdict ledger counted unanswered acks acks_behind ack_of code_of kind_of rule_text digits contents_of encode_with is_complete job_of answer answer_to proposed_by answered_by summary_rule id_read decode_pairs name_of body
scribes = record {
  missing = rw (get-empty byte_order id) refl;
  report = rw (get-empty byte_order id) refl;
  ack = refl;
  found = refl;
  kept = refl;
  clash_line = refl;
  no_report = refl;
}
