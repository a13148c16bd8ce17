-- The message of a raw entry that fits is in the grammar, and its text is at most some six times as long as the entry's record.
use Rattle.std.proofs.Common.{◌≡◌, ℕ, zero, suc, ◌+◌, ◌*◌, ◌≤◌, ℤ, pos, negsuc, List, [], ◌∷◌, ◌++◌, length, Bool, true, false, not, ◌==◌, if◌then◌else◌, Option, Some, None, option_map, IfSome, refl, sym, subst, arith}
use Rattle.std.proofs.Math.Facts.{yes_leb}
use Rattle.std.specs.Int.Signed.{le_z_yes}
use Rattle.hex.specs.Hex.{encode_lower, lower_digits}
use Rattle.hex.proofs.HexLemmas.{length-encode_with}
use Rattle.json.specs.Print.{quoted, escape_byte}
use Rattle.fluid_json.specs.Tree.{Tree, null, whole, text, members, IsCanonical}
use Rattle.fluid_json.specs.Printed.{printed}
use Rattle.fluid_types.specs.Names.{IsName}
use Rattle.fluid_types.specs.Texts.{name_of}
use Rattle.fluid_types.specs.Words.{kind_word}
use Rattle.fluid_types.specs.Forms.{largest}
use Rattle.fluid_types.specs.Fits.{Fits}
use Rattle.fluid_types.specs.Ledger.{order, seq}
use Rattle.fluid_types.specs.Printed.{Row, row, row_if_any, count_tree, or_null, submission_rows, submission_tree, raw_rows, raw_printed, message_rows, message_printed}
use Rattle.fluid_types.proofs.Ledgers.{seq-push}
use Rattle.fluid_types.specs.declared.fault.Field.TheVariants as field
use Rattle.fluid_types.specs.declared.entries.Scopes.{Scopes}
use Rattle.fluid_types.specs.declared.entries.Offered.{Offered}
use Rattle.fluid_types.specs.declared.entries.Submission.{Submission}
use Rattle.fluid_types.specs.declared.entries.Raw.{Raw}
use Rattle.fluid_types.specs.declared.entries.Raw.TheVariants.{Join, Leave, Submit, Report}
use Rattle.fluid_types.specs.declared.messages.Kind.{Kind}
use Rattle.fluid_types.specs.declared.messages.Kind.TheVariants as kind
use Rattle.fluid_types.specs.declared.messages.Message.{Message}
use Rattle.fluid_types.specs.declared.verdicts.Verdict.TheVariants.{Sequenced}
use Rattle.fluid_types.specs.declared.verdicts.Verdict.{Verdict}
use Rattle.fluid_types.specs.Blobs.{blobs}
use Rattle.fluid_rules.specs.declared.answers.SummaryRule.{SummaryRule}
use Rattle.fluid_rules.specs.declared.answers.SummaryRule.TheVariants.{Malformed, StaleHead, OldReference, Missing}
use Rattle.fluid_rules.specs.declared.answers.Proposed.{Proposed}
use Rattle.fluid_rules.specs.declared.answers.Answer.{Answer}
use Rattle.fluid_rules.specs.declared.answers.Answer.TheVariants.{Dropped, Ack, Refused}
use Rattle.fluid_rules.specs.Scribe.{is_stale, is_old, last_ack, pending, proposed_by, reference_of, version, judged, answer_to, answer_by, answer, reported, rule_text, proposal_tree, ack_contents, refusal_contents}
use Rattle.fluid_rules.specs.Rules.{first_case, leaves_reference, join_data, system_message, submission_message, answer_message, unsettled, message, minimum}
use Rattle.fluid_rules.proofs.Handles.{version-size}
use Rattle.fluid_rules.proofs.Growth.{minimum-bounded}
use Rattle.fluid_rules.proofs.Legal.{legal-push}
use Rattle.fluid_rules.proofs.Settled.{message-minimum}
use Rattle.fluid_rules.proofs.Verdicts.{verdict-is_message}
use Rattle.fluid_codec.specs.Laws.{IsNested, IsReference, IsSubmission, IsReport, IsMessage}
use Rattle.fluid_codec.proofs.ReadBack.{messages_are_read_back}
use Rattle.fluid_readback.specs.Laws.{IsReadBack, HasHandle, IsMessageOf, MessagesAreReadBack, SequencedAreReadBack}
use Rattle.fluid_readback.proofs.Entries.{object_bytes, rows_bytes, rows_short, quoted_short, name_short, count_short, reference_short}
use Rattle.fluid_readback.proofs.Fitting.{fits_in_grammar}

-- ---- the bytes of a message

rows_bytes-append : (rs more : List Row) → rows_bytes (rs ++ more) ≡ rows_bytes rs + rows_bytes more
rows_bytes-append [] more = omega arith
rows_bytes-append (r ∷ rs) more = omega (arith, rows_bytes-append rs more)

client_short : (client : Option (List ℕ)) → IfSome client IsName → length (printed (or_null text client)) ≤ 386
client_short None h = omega arith
client_short (Some id) h = name_short id h

kind_short : (k : Kind) → length (quoted (kind_word k)) ≤ 13
unfolding escape_byte
kind_short kind.Op = omega arith
kind_short kind.Noop = omega arith
kind_short kind.Propose = omega arith
kind_short kind.Reject = omega arith
kind_short kind.Summarize = omega arith
kind_short kind.Join = omega arith
kind_short kind.Leave = omega arith
kind_short kind.SummaryAck = omega arith
kind_short kind.SummaryNack = omega arith

-- the bytes of what a message may have
abbrev data_bytes : Option (List ℕ) → ℕ
data_bytes system = rows_bytes (row_if_any field.Data (option_map text system))

abbrev metadata_bytes : Option Tree → ℕ
metadata_bytes metadata = rows_bytes (row_if_any field.Metadata metadata)

message_bytes : (m : Message) → IsMessage m → length (message_printed m) ≤ 1000 + (length (printed m.contents) + (data_bytes m.system + metadata_bytes m.metadata))
unfolding message_rows name_of escape_byte
message_bytes m h =
    let behind : List Row =
    row field.MinimumSequenceNumber (count_tree m.minimum)
    ∷ row field.ReferenceSequenceNumber (whole m.reference)
    ∷ row field.SequenceNumber (count_tree m.number)
    ∷ row field.Timestamp (count_tree m.moment)
    ∷ row field.«Type» (text (kind_word m.kind))
    ∷ [] in
    omega (
      arith,
      rows_short (message_rows m),
      rows_bytes-append (row_if_any field.Data (option_map text m.system)) (row_if_any field.Metadata m.metadata ++ behind),
      rows_bytes-append (row_if_any field.Metadata m.metadata) behind,
      client_short m.client h.client,
      reference_short m.client_number h.client_number,
      count_short m.minimum h.minimum,
      reference_short m.reference h.reference,
      count_short m.number h.number,
      count_short m.moment h.moment,
      kind_short m.kind,
    )

-- a message in the grammar with not too many bytes
read_back : (m : Message) → IsMessage m → length (printed m.contents) + (data_bytes m.system + metadata_bytes m.metadata) ≤ 33000000 → IsReadBack m
read_back m h short = record {
  in_grammar = h;
  short = omega (arith, message_bytes m h, short);
  read_back = messages_are_read_back m h;
}

-- ---- what the parts of a record have

join_detail : (id : List ℕ) (scopes : Scopes) (detail : Tree) (moment : ℕ) → length (printed detail) ≤ length (raw_printed (Join id scopes detail moment))
unfolding raw_rows
join_detail id scopes detail moment = omega (arith, object_bytes (members (raw_rows (Join id scopes detail moment))))

submitted : (id : List ℕ) (s : Submission) (moment : ℕ) → length (printed (submission_tree s)) ≤ length (raw_printed (Submit id s moment))
unfolding raw_rows
submitted id s moment = omega (arith, object_bytes (members (raw_rows (Submit id s moment))))

submission_parts : (n : ℕ) (z : ℤ) (k : Offered) (c : Tree) (o : Option Tree)
    → (let s : Submission = record { client_number = n; reference = z; kind = k; contents = c; metadata = o } in
    length (printed c) + metadata_bytes o ≤ 100 + length (printed (submission_tree s)))
unfolding submission_rows name_of escape_byte
submission_parts n z k c None = omega (arith, object_bytes (members (submission_rows (record { client_number = n; reference = z; kind = k; contents = c; metadata = None }))))
submission_parts n z k c (Some m) = omega (arith, object_bytes (members (submission_rows (record { client_number = n; reference = z; kind = k; contents = c; metadata = Some m }))))

-- ---- joins, leaves and submissions

no_reference : IsReference (negsuc 0)
no_reference = record { least = le_z_yes tt; most = le_z_yes tt }

count_reference : (n : ℕ) → n ≤ largest → IsReference (pos n)
count_reference n h = record { least = le_z_yes tt; most = le_z_yes (yes_leb h) }

null_nested : IsNested 99 null
null_nested = record { canonical = tt; shallow = omega arith }

-- a message that no client sent
system_in_grammar : (k : Kind) (number minimum : ℕ) (system : Option (List ℕ)) (contents : Tree) (moment : ℕ) → number ≤ largest → minimum ≤ largest → moment ≤ largest → IsNested 99 contents
    → IsMessage (record { client = None; client_number = negsuc 0; reference = negsuc 0; number = number; minimum = minimum; kind = k; contents = contents; system = system; metadata = None; moment = moment })
system_in_grammar k number minimum system contents moment n m t c = record {
  client = tt;
  client_number = no_reference;
  reference = no_reference;
  number = n;
  minimum = m;
  moment = t;
  contents = c;
  metadata = tt;
}

data_short : (s : List ℕ) → data_bytes (Some s) ≤ 20 + 6 * length s
unfolding name_of escape_byte
data_short s = omega (arith, quoted_short s)

join_data_short : (id : List ℕ) (detail : Tree) → IsName id → length (printed (join_data id detail)) ≤ 500 + length (printed detail)
unfolding name_of escape_byte
join_data_short id detail n = omega (arith, rows_short (row field.ClientId (text id) ∷ row field.Detail detail ∷ []), name_short id n)

-- the message but for its minimum, with this one
abbrev with_minimum : ℕ → Message → Message
with_minimum least m = record m { minimum = least }

join_read_back : (id : List ℕ) (scopes : Scopes) (detail : Tree) (moment number least : ℕ) → Fits (Join id scopes detail moment) → number ≤ largest → least ≤ largest
    → IsReadBack (with_minimum least (system_message kind.Join number (Some (printed (join_data id detail))) moment))
join_read_back id scopes detail moment number least fits n m =
    let is = fits_in_grammar (Join id scopes detail moment) fits in
    read_back (with_minimum least (system_message kind.Join number (Some (printed (join_data id detail))) moment))
    (system_in_grammar kind.Join number least (Some (printed (join_data id detail))) null moment n m is.bound null_nested)
    (omega (arith, fits.short, join_detail id scopes detail moment, join_data_short id detail is.name, data_short (printed (join_data id detail))))

leave_read_back : (id : List ℕ) (moment number least : ℕ) → Fits (Leave id moment) → number ≤ largest → least ≤ largest
    → IsReadBack (with_minimum least (system_message kind.Leave number (Some (printed (text id))) moment))
leave_read_back id moment number least fits n m =
    let is = fits_in_grammar (Leave id moment) fits in
    read_back (with_minimum least (system_message kind.Leave number (Some (printed (text id))) moment))
    (system_in_grammar kind.Leave number least (Some (printed (text id))) null moment n m is.bound null_nested)
    (omega (arith, name_short id is.name, data_short (printed (text id))))

-- a reference of -1 becomes the message's own number
sent_reference : (z : ℤ) (number : ℕ) → number ≤ largest → IsReference z → IsReference (if leaves_reference z then pos number else z)
sent_reference (pos k) number n h = h
sent_reference (negsuc zero) number n h = count_reference number n
sent_reference (negsuc (suc k)) number n h = h

looser : (t : Tree) → IsNested 98 t → IsNested 99 t
looser t h = record { canonical = h.canonical; shallow = omega (arith, h.shallow) }

looser_if_any : (o : Option Tree) → IfSome o (IsNested 98) → IfSome o (IsNested 99)
looser_if_any None h = tt
looser_if_any (Some t) h = looser t h

submission_in_grammar : (id : List ℕ) (s : Submission) (moment number least : ℕ) → IsName id → IsSubmission s → number ≤ largest → least ≤ largest → moment ≤ largest
    → IsMessage (with_minimum least (submission_message number id s moment))
submission_in_grammar id s moment number least name is n m t = record {
  client = name;
  client_number = count_reference s.client_number is.client_number;
  reference = sent_reference s.reference number n is.reference;
  number = n;
  minimum = m;
  moment = t;
  contents = looser s.contents is.contents;
  metadata = looser_if_any s.metadata is.metadata;
}

submission_read_back : (id : List ℕ) (s : Submission) (moment number least : ℕ) → Fits (Submit id s moment) → number ≤ largest → least ≤ largest
    → IsReadBack (with_minimum least (submission_message number id s moment))
submission_read_back id s moment number least fits n m =
    let is = fits_in_grammar (Submit id s moment) fits in
    read_back (with_minimum least (submission_message number id s moment)) (submission_in_grammar id s moment number least is.name is.operation n m is.bound)
    (omega (arith, fits.short, submitted id s moment, submission_parts s.client_number s.reference s.kind s.contents s.metadata))

-- ---- answers to reports

chain_handle : (stale old missing : Bool) (app : List ℕ) (texts : List (List ℕ × List ℕ))
    → HasHandle (first_case ((stale, Refused StaleHead) ∷ (old, Refused OldReference) ∷ (missing, Refused Missing) ∷ []) (Ack (version app texts)))
chain_handle true old missing app texts = tt
chain_handle false true missing app texts = tt
chain_handle false false true app texts = tt
chain_handle false false false app texts = version-size app texts

judged_handle : (messages : List Message) (reference : ℕ) (found : Bool) (proposed : Option Proposed) → HasHandle (judged messages reference found proposed)
judged_handle messages reference found None = tt
judged_handle messages reference found (Some proposed) =
    chain_handle (is_stale (last_ack messages) proposed) (is_old (last_ack messages) reference) (not found) proposed.app (blobs messages reference)

pending_handle : (messages : List Message) (summary : ℕ) (found : Bool) (pending : Option Message) → HasHandle (answer_by messages summary found pending)
unfolding answer_to
pending_handle messages summary found None = tt
pending_handle messages summary found (Some m) =
    elim (m.number == summary) as (λ b. HasHandle (if b then answer_to messages found m else Dropped)) [
      | true ↦ judged_handle messages (reference_of m) found (proposed_by m)
      | false ↦ tt
    ]

answer_handle : (messages : List Message) (summary : ℕ) (found : Bool) → HasHandle (answer messages summary found)
unfolding answer
answer_handle messages summary found = pending_handle messages summary found (pending messages)

proposal_canonical : (summary : ℕ) → summary ≤ largest → IsCanonical (proposal_tree summary)
proposal_canonical summary n = (tt, (omega arith, tt))

proposal_short : (summary : ℕ) → summary ≤ largest → length (printed (proposal_tree summary)) ≤ 100
unfolding name_of escape_byte
proposal_short summary n = omega (arith, rows_short (row field.SummarySequenceNumber (count_tree summary) ∷ []), count_short summary n)

ack_nested : (summary : ℕ) (handle : List ℕ) → summary ≤ largest → IsNested 99 (ack_contents summary handle)
unfolding name_of
ack_nested summary handle n = record {
  canonical = ((refl, tt), (tt, (tt, (proposal_canonical summary n, tt))));
  shallow = omega arith;
}

ack_short : (summary : ℕ) (handle : List ℕ) → summary ≤ largest → length handle ≡ 20 → length (printed (ack_contents summary handle)) ≤ 1000
unfolding name_of escape_byte
ack_short summary handle n size =
    omega (
      arith,
      rows_short (row field.Handle (text (encode_lower handle)) ∷ row field.SummaryProposal (proposal_tree summary) ∷ []),
      quoted_short (encode_lower handle),
      length-encode_with lower_digits handle,
      proposal_short summary n,
    )

rule_short : (rule : SummaryRule) → length (rule_text rule) ≤ 50
unfolding rule_text
rule_short Malformed = omega arith
rule_short StaleHead = omega arith
rule_short OldReference = omega arith
rule_short Missing = omega arith

refusal_nested : (summary : ℕ) (rule : SummaryRule) → summary ≤ largest → IsNested 99 (refusal_contents summary rule)
unfolding name_of
refusal_nested summary rule n = record {
  canonical = ((refl, (refl, tt)), (omega arith, ((refl, tt), (tt, (tt, (proposal_canonical summary n, tt))))));
  shallow = omega arith;
}

refusal_short : (summary : ℕ) (rule : SummaryRule) → summary ≤ largest → length (printed (refusal_contents summary rule)) ≤ 1000
unfolding name_of escape_byte
refusal_short summary rule n =
    omega (
      arith,
      rows_short (row field.Code (count_tree 400) ∷ row field.Message (text (rule_text rule)) ∷ row field.SummaryProposal (proposal_tree summary) ∷ []),
      quoted_short (rule_text rule),
      rule_short rule,
      count_short 400 (omega arith),
      proposal_short summary n,
    )

-- a message of these contents
said_read_back : (k : Kind) (contents : Tree) (moment number least : ℕ) → number ≤ largest → least ≤ largest → moment ≤ largest → IsNested 99 contents → length (printed contents) ≤ 1000
    → IsReadBack (with_minimum least (answer_message number moment (k, contents)))
said_read_back k contents moment number least n m t nested short =
    read_back (with_minimum least (answer_message number moment (k, contents))) (system_in_grammar k number least None contents moment n m t nested) (omega (arith, short))

some_message : (x m : Message) → Some x ≡ Some m → x ≡ m
some_message x m h = cc

-- what is said of a message holds of the one that it is
carried : (least : ℕ) (x bare : Message) → IsReadBack (with_minimum least x) → Some x ≡ Some bare → IsReadBack (with_minimum least bare)
carried least x bare is said = subst (λ b. IsReadBack (with_minimum least b)) (some_message x bare said) is

report_read_back : (summary moment number least : ℕ) (a : Answer) (bare : Message) → IsReport summary moment → HasHandle a → number ≤ largest → least ≤ largest
    → option_map (answer_message number moment) (reported summary a) ≡ Some bare → IsReadBack (with_minimum least bare)
report_read_back summary moment number least Dropped bare is size n m said = absurd (cc)
report_read_back summary moment number least (Ack handle) bare is size n m said =
    carried least (answer_message number moment (kind.SummaryAck, ack_contents summary handle)) bare
    (said_read_back kind.SummaryAck (ack_contents summary handle) moment number least n m is.bound (ack_nested summary handle is.most) (ack_short summary handle is.most size)) said
report_read_back summary moment number least (Refused rule) bare is size n m said =
    carried least (answer_message number moment (kind.SummaryNack, refusal_contents summary rule)) bare
    (said_read_back kind.SummaryNack (refusal_contents summary rule) moment number least n m is.bound (refusal_nested summary rule is.most) (refusal_short summary rule is.most)) said

-- ---- the message of an entry

bare_read_back : (raw : Raw) (number least : ℕ) (answers : ℕ → Bool → Answer) (bare : Message) → ((summary : ℕ) (found : Bool) → HasHandle (answers summary found)) → Fits raw → number ≤ largest → least ≤ largest
    → unsettled number answers raw ≡ Some bare → IsReadBack (with_minimum least bare)
unfolding unsettled
bare_read_back (Join id scopes detail moment) number least answers bare handles fits n m said =
    carried least (system_message kind.Join number (Some (printed (join_data id detail))) moment) bare (join_read_back id scopes detail moment number least fits n m) said
bare_read_back (Leave id moment) number least answers bare handles fits n m said =
    carried least (system_message kind.Leave number (Some (printed (text id))) moment) bare (leave_read_back id moment number least fits n m) said
bare_read_back (Submit id s moment) number least answers bare handles fits n m said =
    carried least (submission_message number id s moment) bare (submission_read_back id s moment number least fits n m) said
bare_read_back (Report summary found moment) number least answers bare handles fits n m said =
    report_read_back summary moment number least (answers summary found) bare (fits_in_grammar (Report summary found moment) fits) (handles summary found) n m said

pub messages_of_are_read_back : MessagesAreReadBack
messages_of_are_read_back raw number least m fits n k of = subst IsReadBack (sym of.is) (bare_read_back raw number least of.answers of.bare of.handles fits n k of.said)

-- ---- where a minimum is settled

-- whatever settles its minimum, it is the message with this number and the minimum that it has
pub is_message_of : (raw : Raw) (number : ℕ) (answers : ℕ → Bool → Answer) (least : Message → ℕ) (o : Option Message) (m : Message) → ((summary : ℕ) (found : Bool) → HasHandle (answers summary found)) → unsettled number answers raw ≡ o
    → option_map (λ x. with_minimum (least x) x) o ≡ Some m → IsMessageOf raw number m.minimum m
is_message_of raw number answers least None m handles is said = absurd (cc)
is_message_of raw number answers least (Some x) m handles is said = record {
  answers = answers;
  handles = handles;
  bare = x;
  said = is;
  is = subst (λ y. y ≡ with_minimum y.minimum x) (some_message (with_minimum (least x) x) m said) refl;
}

-- ---- behind a ledger

pub sequenced_are_read_back : SequencedAreReadBack
unfolding message
sequenced_are_read_back l raw m legal few fits is =
    let said = verdict-is_message l raw m is in
    let entry : Raw × Verdict = (raw, Sequenced m) in
    let grown = legal-push l entry legal (sym is) in
    let low = minimum-bounded (l ++ entry ∷ []) grown in
    let of = is_message_of raw (seq l + 1) (answer (order l)) (λ x. minimum (l ++ (raw, Sequenced x) ∷ [])) (unsettled (seq l + 1) (answer (order l)) raw) m (answer_handle (order l)) refl said in
    messages_of_are_read_back raw (seq l + 1) m.minimum m fits (omega (arith, few)) (omega (arith, few, low, message-minimum l raw m said, seq-push l entry)) of
