-- The worked examples of the scribe, computed.
use Rattle.std.proofs.Common.{◌≡◌, [], ◌∷◌, Ok, codes, refl, ap, ◌∙◌, map, arith}
use Rattle.std.specs.Fmt.{digits}
use Rattle.hex.specs.Hex.{encode_with, decode_pairs}
use Rattle.json.specs.Print.{escape_byte}
use Rattle.fluid_json.specs.Spelled.{answer as spelled}
use Rattle.fluid_json.specs.Tree.{null, text, object, members as pairs}
use Rattle.fluid_json.proofs.ReadBack.{answers_itself}
use Rattle.fluid_types.specs.Contents.{body}
use Rattle.fluid_types.specs.Names.{is_name}
use Rattle.fluid_types.specs.Texts.{name_of}
use Rattle.fluid_types.specs.Quorum.{member_of, left_by, standing, members, quorum_of}
use Rattle.fluid_types.specs.Blobs.{blob_text}
use Rattle.fluid_types.proofs.Tables.{entries-latest}
use Rattle.fluid_tree.specs.Ids.{id_read}
use Rattle.fluid_rules.specs.Scribe.{proposed_by, answered_by, unanswered, ack_of, acks_behind, acks, answer_to, answer, rule_text}
use Rattle.fluid_rules.specs.ScribeExamples.{asking, empty_tree_text, VersionAtReference, OnThePending, AfterTheAck, StaleHeads, AskedAsText, SaidToReports, MalformedContents, OldReferences, LastAcks}

joined : spelled (codes "{\"clientId\":\"B\",\"detail\":null}") ≡ Ok (object (pairs ((codes "clientId", text (codes "B")) ∷ (codes "detail", null) ∷ [])))
unfolding escape_byte
joined =
    answers_itself 101 (object (pairs ((codes "clientId", text (codes "B")) ∷ (codes "detail", null) ∷ []))) ((refl, tt), (tt, (tt, (tt, tt)))) (omega arith) (omega arith)

pub version_at_reference : VersionAtReference
unfolding body name_of proposed_by answered_by unanswered ack_of acks_behind acks answer_to answer id_read decode_pairs is_name member_of left_by standing members quorum_of blob_text escape_byte digits
version_at_reference = record {
  pending_is = refl;
  answered = refl;
  attributes = refl;
  nobody_at_20 = ap (map (λ e. e.0)) (entries-latest _);
  one_at_25 = ap (map (λ e. e.0)) (entries-latest _) ∙ rw joined refl;
}

pub on_the_pending : OnThePending
unfolding body name_of proposed_by answered_by unanswered ack_of acks_behind acks answer_to answer id_read decode_pairs
on_the_pending = record { missing = refl; on_an_op = refl; on_a_later_one = refl; nothing_pending = refl }

pub after_the_ack : AfterTheAck
unfolding body name_of proposed_by answered_by unanswered ack_of acks_behind acks answer_to answer id_read decode_pairs encode_with
after_the_ack = record { nothing_pending = refl; acknowledged = refl; its_number = refl; no_number = refl; again = refl }

pub stale_heads : StaleHeads
unfolding body name_of proposed_by answered_by unanswered ack_of acks_behind acks answer_to answer id_read decode_pairs encode_with rule_text
stale_heads = record { nothing_to_build_on = refl; refused = refl; whatever_is_found = refl; old_as_well = refl; again = refl }

spelled_asking : spelled (codes "{\"handle\":\"4b825dc642cb6eb9a060e54bf8d69288fbee4904\",\"head\":\"\"}") ≡ Ok (asking empty_tree_text [])
unfolding escape_byte
spelled_asking = answers_itself 101 (asking empty_tree_text []) ((refl, tt), (tt, (tt, (tt, tt)))) (omega arith) (omega arith)

pub asked_as_text : AskedAsText
unfolding body name_of proposed_by answered_by unanswered ack_of acks_behind acks answer_to answer id_read decode_pairs
asked_as_text = rw spelled_asking refl

pub said_to_reports : SaidToReports
unfolding name_of rule_text encode_with escape_byte digits
said_to_reports = record { dropped = refl; acknowledged = refl; malformed = refl; stale_head = refl; old_reference = refl; missing = refl }

pub malformed_contents : MalformedContents
unfolding body name_of proposed_by answered_by unanswered ack_of acks_behind acks answer_to answer id_read decode_pairs encode_with
malformed_contents = record { nothing = refl; not_found_either = refl; upper = refl; short = refl; no_head = refl }

pub old_references : OldReferences
unfolding body name_of proposed_by answered_by unanswered ack_of acks_behind acks answer_to answer id_read decode_pairs encode_with
old_references = record { below = refl; below_and_missing = refl; equal = refl }

pub last_acks : LastAcks
unfolding body name_of proposed_by answered_by unanswered ack_of acks_behind acks answer_to answer id_read decode_pairs encode_with
last_acks = record { first_head = refl; last_head = refl; between = refl; numbers = refl; last_number = refl; first_number = refl }
